-- The pair rule and the seven rule, kept where a card with room becomes free, and where a card of an open pair goes. Assumes nothing.
use mathlib.Core.Bool.{Bool, true, false, not, ◌&&◌, cond}
use mathlib.Core.Logic.{◌⊎◌, inl, inr}
use mathlib.Core.Path.{◌≡◌, refl, sym, ap, ap₂, ◌∙◌, subst}
use Prim.Native.Nat.{ℕ, ◌+◌, ◌-◌, ◌*◌, ◌/◌, ◌≤◌, ◌<◌}
use native.Mathlib.Omega.{arith}
use lib.Dec.{eqb, ltb}
use borrow.Author.Tests.{eqb-true, ltb-true, le-ltb}
use Rattle.rules.specs.declared.Position.{Position}
use Rattle.rules.specs.Bits.{num}
use Rattle.rules.specs.Cards.{rank, pair, higher, is_king}
use Rattle.rules.specs.Places.{is_visible, is_free, is_head, visible_in, free_in, heads_and_kings}
use Rattle.rules.specs.Legal.{is_open, has_room}
use Rattle.bits.proofs.Searches.{and_left, and_right, or_cases}
use Rattle.rules.proofs.ProperLaw.{free_is, no_card_lem}
use Rattle.rules.proofs.ProperMade.{numbers_right_lem}
use Rattle.rules.proofs.Facts.{Facts, sets, head_count, kings, is_once}
use Rattle.facts.proofs.PairCount.{in_pair, counts_pair, pair_le, pair_more}

-- free, where every card is in one set
unfoldable pub seen_no_head : Position → ℕ → Bool
seen_no_head p x = is_visible p x && not (is_head p x)

abbrev pub Once : Position → Type 0
Once p = (c : ℕ) → c < 52 → sets p c ≡ 1

pub free_pair : (p : Position) → Once p → (k : ℕ) → k < 26 → free_in p k ≡ in_pair (seen_no_head p) k
unfolding free_in seen_no_head in_pair
free_pair p o k l =
    counts_pair (is_free p) k ∙ ap₂ (λ (a b : Bool). num a + num b) (free_is p (is_once p o) (2 * k) (omega arith)) (free_is p (is_once p o) (2 * k + 1) (omega arith))

seen_pair : (p : Position) (k : ℕ) → visible_in p k ≡ in_pair (is_visible p) k
unfolding visible_in
seen_pair p k = counts_pair (is_visible p) k

-- the two rules
pub record Ruled (p : Position) : Type 0 where
  pub pairs : (k : ℕ) → k < 24 → free_in p k ≤ visible_in p (k + 2)
  pub seven : head_count p + free_in p 24 + free_in p 25 ≤ 7

-- "in an open pair", "has room", as numbers
pub open_means : (p : Position) (k : ℕ) → is_open p k ≡ true → 2 ≤ k → free_in p (k - 2) < visible_in p k
unfolding is_open
open_means p k h l = ltb-true (free_in p (k - 2)) (visible_in p k) (ap (λ (b : Bool). cond b (ltb 0 (visible_in p k)) (ltb (free_in p (k - 2)) (visible_in p k))) (sym (le-ltb k 2 l)) ∙ h)

pub record Room (p : Position) (c : ℕ) : Type 0 where
  pub below : c / 2 < 24 → free_in p (c / 2) < visible_in p (c / 2 + 2)
  pub king : 24 ≤ c / 2 → head_count p + free_in p 24 + free_in p 25 < 7

module _ (p : Position) (f : Facts p) where
  none_above : (k : ℕ) → 26 ≤ k → visible_in p k ≡ 0
  unfolding in_pair
  none_above k l =
      seen_pair p k ∙ ap₂ (λ (a b : Bool). num a + num b) (no_card_lem p (numbers_right_lem p f.numbers) (2 * k) (omega arith)) (no_card_lem p (numbers_right_lem p f.numbers) (2 * k + 1) (omega arith))

  pub room_means : (c : ℕ) → has_room p c ≡ true → Room p c
  unfolding has_room higher pair is_king rank
  room_means c h = go (or_cases (is_open p (c / 2 + 2)) (eqb (c / 4) 12 && ltb (heads_and_kings p) 7) h)
    where
      opened : is_open p (c / 2 + 2) ≡ true → free_in p (c / 2) < visible_in p (c / 2 + 2)
      opened o = let e : c / 2 + 2 - 2 ≡ c / 2 = omega arith in subst (λ (k : ℕ). free_in p k < visible_in p (c / 2 + 2)) e (open_means p (c / 2 + 2) o (omega arith))

      go : (is_open p (c / 2 + 2) ≡ true) ⊎ ((eqb (c / 4) 12 && ltb (heads_and_kings p) 7) ≡ true) → Room p c
      go (inl o) = record { below = λ l. opened o; king = λ l. absurd (omega (arith, opened o, none_above (c / 2 + 2) (omega arith))) }
      go (inr o) =
          let r : c / 4 ≡ 12 = eqb-true (c / 4) 12 (and_left (eqb (c / 4) 12) (ltb (heads_and_kings p) 7) o) in
          record { below = λ l. absurd (omega arith); king = λ l. omega (arith, kings p, ltb-true (heads_and_kings p) 7 (and_right (eqb (c / 4) 12) (ltb (heads_and_kings p) 7) o)) }

-- one where k is the pair of c
is_pair : (k c : ℕ) → (num (eqb k (c / 2)) ≡ 0) ⊎ ((k ≡ c / 2) × (num (eqb k (c / 2)) ≡ 1))
is_pair k c = go (eqb k (c / 2)) refl
  where
    go : (b : Bool) → eqb k (c / 2) ≡ b → (num (eqb k (c / 2)) ≡ 0) ⊎ ((k ≡ c / 2) × (num (eqb k (c / 2)) ≡ 1))
    go true y = inr (eqb-true k (c / 2) y, ap num y)
    go false y = inl (ap num y)

module _ (p q : Position) (f : Facts p) (o : Once q) (c : ℕ) where
  free_more : ((x : ℕ) → x < 52 → num (seen_no_head q x) ≤ num (seen_no_head p x) + num (eqb x c)) → (k : ℕ) → k < 26 → free_in q k ≤ free_in p k + num (eqb k (c / 2))
  free_more e k l = omega (arith, pair_more (seen_no_head q) (seen_no_head p) c e k l, free_pair p f.one_set k l, free_pair q o k l)

  free_le : ((x : ℕ) → x < 52 → num (seen_no_head q x) ≤ num (seen_no_head p x)) → (k : ℕ) → k < 26 → free_in q k ≤ free_in p k
  free_le e k l = omega (arith, pair_le (seen_no_head q) (seen_no_head p) e k l, free_pair p f.one_set k l, free_pair q o k l)

  seen_le : ((x : ℕ) → x < 52 → num (is_visible p x) ≤ num (is_visible q x)) → (k : ℕ) → k < 26 → visible_in p k ≤ visible_in q k
  seen_le e k l = omega (arith, pair_le (is_visible p) (is_visible q) e k l, seen_pair p k, seen_pair q k)

  -- nothing becomes free, and nothing visible goes
  pub still_keeps : ((x : ℕ) → x < 52 → num (seen_no_head q x) ≤ num (seen_no_head p x)) → ((x : ℕ) → x < 52 → num (is_visible p x) ≤ num (is_visible q x)) → head_count q ≤ head_count p → Ruled q
  still_keeps free seen h =
      record {
        pairs = λ k l. omega (arith, free_le free k (omega arith), seen_le seen (k + 2) (omega arith), f.pairs k l);
        seven = omega (arith, free_le free 24 (omega arith), free_le free 25 (omega arith), f.seven);
      }

  -- c becomes free, and nothing visible goes
  pub put_keeps : ((x : ℕ) → x < 52 → num (seen_no_head q x) ≤ num (seen_no_head p x) + num (eqb x c))
      → ((x : ℕ) → x < 52 → num (is_visible p x) ≤ num (is_visible q x))
      → head_count q ≤ head_count p → Room p c → Ruled q
  put_keeps free seen h r = record { pairs = pairs; seven = seven (is_pair 24 c) (is_pair 25 c) }
    where
      sees : (k : ℕ) → k < 26 → visible_in p k ≤ visible_in q k
      sees = seen_le seen

      pairs : (k : ℕ) → k < 24 → free_in q k ≤ visible_in q (k + 2)
      pairs k l = go (is_pair k c)
        where
          go : (num (eqb k (c / 2)) ≡ 0) ⊎ ((k ≡ c / 2) × (num (eqb k (c / 2)) ≡ 1)) → free_in q k ≤ visible_in q (k + 2)
          go (inl z) = omega (arith, free_more free k (omega arith), sees (k + 2) (omega arith), f.pairs k l)
          go (inr z) =
              let room : free_in p k < visible_in p (k + 2) = subst (λ (j : ℕ). free_in p j < visible_in p (j + 2)) (sym z.0) (r.below (omega (arith, z.0))) in
              omega (arith, free_more free k (omega arith), sees (k + 2) (omega arith), z.1)

      seven : (num (eqb 24 (c / 2)) ≡ 0) ⊎ ((24 ≡ c / 2) × (num (eqb 24 (c / 2)) ≡ 1)) → (num (eqb 25 (c / 2)) ≡ 0) ⊎ ((25 ≡ c / 2) × (num (eqb 25 (c / 2)) ≡ 1)) → head_count q + free_in q 24 + free_in q 25 ≤ 7
      seven (inl y) (inl z) = omega (arith, free_more free 24 (omega arith), free_more free 25 (omega arith), f.seven)
      seven (inl y) (inr z) = omega (arith, free_more free 24 (omega arith), free_more free 25 (omega arith), z.1, r.king (omega (arith, z.0)))
      seven (inr y) (inl z) = omega (arith, free_more free 24 (omega arith), free_more free 25 (omega arith), y.1, r.king (omega (arith, y.0)))
      seven (inr y) (inr z) = absurd (omega (arith, y.0, z.0))

  -- c goes, and nothing becomes free
  pub take_keeps : ((x : ℕ) → x < 52 → num (seen_no_head q x) ≤ num (seen_no_head p x))
      → ((x : ℕ) → x < 52 → num (is_visible p x) ≤ num (is_visible q x) + num (eqb x c))
      → head_count q ≤ head_count p → is_open p (c / 2) ≡ true → Ruled q
  take_keeps free seen h w = record { pairs = pairs; seven = omega (arith, frees 24 (omega arith), frees 25 (omega arith), f.seven) }
    where
      frees : (k : ℕ) → k < 26 → free_in q k ≤ free_in p k
      frees = free_le free

      sees : (k : ℕ) → k < 26 → visible_in p k ≤ visible_in q k + num (eqb k (c / 2))
      sees k l = omega (arith, pair_more (is_visible p) (is_visible q) c seen k l, seen_pair p k, seen_pair q k)

      pairs : (k : ℕ) → k < 24 → free_in q k ≤ visible_in q (k + 2)
      pairs k l = go (is_pair (k + 2) c)
        where
          go : (num (eqb (k + 2) (c / 2)) ≡ 0) ⊎ ((k + 2 ≡ c / 2) × (num (eqb (k + 2) (c / 2)) ≡ 1)) → free_in q k ≤ visible_in q (k + 2)
          go (inl z) = omega (arith, frees k (omega arith), sees (k + 2) (omega arith), f.pairs k l)
          go (inr z) =
              let e : c / 2 - 2 ≡ k = omega (arith, z.0) in
              let gap : free_in p k < visible_in p (k + 2) = subst (λ (j : ℕ). free_in p k < visible_in p j) (sym z.0) (subst (λ (j : ℕ). free_in p j < visible_in p (c / 2)) e (open_means p (c / 2) w (omega (arith, z.0)))) in
              omega (arith, frees k (omega arith), sees (k + 2) (omega arith), z.1)
