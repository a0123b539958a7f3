-- A foundation raised or lowered by one card: which cards are on the foundations. Assumes nothing.
use mathlib.Core.Bool.{Bool, true, false, not, ◌&&◌, ◌||◌, and-true, or-false}
use mathlib.Core.Path.{◌≡◌, refl, sym, ap, ap₂, ◌∙◌}
use Prim.Native.Nat.{ℕ, ◌+◌, ◌-◌, ◌≤◌, ◌<◌}
use native.Mathlib.Omega.{arith}
use lib.Dec.{eqb, ltb}
use lib.ListN.{length, get_or, set}
use lib.Seq.{get_or-set_same, get_or-set_other}
use borrow.Author.Tests.{eqb-true, eqb-false, ne_eqb, lt-ltb, le-ltb, ltb-true, ltb-false}
use Rattle.rules.specs.declared.Position.{Position}
use Rattle.rules.specs.Bits.{all_of}
use Rattle.rules.specs.Cards.{rank, suit, card_of}
use Rattle.rules.specs.Places.{height, on_foundation}
use Rattle.rules.specs.Foundations.{raised_on, lowered_on, stacked_on}
use Rattle.rules.specs.Legal.{next_on, is_next, is_top}
use Rattle.rules.specs.Play.{raised, lowered}
use Rattle.rules.specs.Fields.{with_heights}
use Rattle.bits.proofs.Searches.{all_yes}
use Rattle.rules.proofs.CardsLaw.{named}
use Rattle.rules.proofs.Open.{rules}

-- a card is its rank and suit
pub one_card_of : (x c : ℕ) → x < 52 → c < 52 → rank x ≡ rank c → suit x ≡ suit c → x ≡ c
one_card_of x c hx hc r s =
    sym (eqb-true (card_of (rank x) (suit x)) x (all_yes 52 (λ k. eqb (card_of (rank k) (suit k)) k) named x hx))
    ∙ ap₂ card_of r s
    ∙ eqb-true (card_of (rank c) (suit c)) c (all_yes 52 (λ k. eqb (card_of (rank k) (suit k)) k) named c hc)

suits_all : all_of 52 (λ c. ltb (suit c) 4) ≡ true
unfolding rules
suits_all = refl

pub suit_low : (c : ℕ) → c < 52 → suit c < 4
suit_low c h = ltb-true (suit c) 4 (all_yes 52 (λ x. ltb (suit x) 4) suits_all c h)

pub rank_low : (c : ℕ) → c < 52 → rank c ≤ 12
unfolding rank
rank_low c h = omega arith

-- a top of its foundation is on it
pub top_there : (p : Position) (c : ℕ) → is_top p c ≡ true → on_foundation p c ≡ true
unfolding is_top stacked_on
top_there p c n = lt-ltb (rank c) (height p (suit c)) (omega (arith, eqb-true (rank c + 1) (height p (suit c)) n))

-- the heights with that of c's suit put to h
unfoldable pub put : Position → ℕ → ℕ → Position
put p c h = with_heights p (set p.heights (suit c) h)

put_same : (p : Position) (c h s : ℕ) → c < 52 → length p.heights ≡ 4 → s ≡ suit c → height (put p c h) s ≡ h
unfolding put
put_same p c h s l e q = let g : suit c < length p.heights = omega (arith, suit_low c l) in ap (λ (z : ℕ). get_or (set p.heights (suit c) h) z 0) q ∙ get_or-set_same p.heights (suit c) h 0 g

put_other : (p : Position) (c h s : ℕ) → (s ≡ suit c → ⊥) → height (put p c h) s ≡ height p s
unfolding put
put_other p c h s n = get_or-set_other p.heights (suit c) s h 0 n

-- heights keep a bound that the new one has
pub put_fits : (p : Position) (c h : ℕ) → c < 52 → length p.heights ≡ 4 → h ≤ 13 → ((s : ℕ) → s < 4 → height p s ≤ 13) → (s : ℕ) → s < 4 → height (put p c h) s ≤ 13
put_fits p c h l e b k s ls = go (eqb s (suit c)) refl
  where
    go : (t : Bool) → eqb s (suit c) ≡ t → height (put p c h) s ≤ 13
    go true y = omega (arith, put_same p c h s l e (eqb-true s (suit c) y))
    go false y = omega (arith, put_other p c h s (eqb-false s (suit c) y), k s ls)

module _ (p : Position) (c : ℕ) (l : c < 52) (e : length p.heights ≡ 4) where
  -- x's suit is c's, or not
  at_suit : (x h : ℕ) (b : Bool) → x < 52
      → (suit x ≡ suit c → ltb (rank x) h ≡ b) → ((suit x ≡ suit c → ⊥) → ltb (rank x) (height p (suit x)) ≡ b) → ltb (rank x) (height (put p c h) (suit x)) ≡ b
  at_suit x h b lx same other = go (eqb (suit x) (suit c)) refl
    where
      go : (t : Bool) → eqb (suit x) (suit c) ≡ t → ltb (rank x) (height (put p c h) (suit x)) ≡ b
      go true y = ap (ltb (rank x)) (put_same p c h (suit x) l e (eqb-true (suit x) (suit c) y)) ∙ same (eqb-true (suit x) (suit c) y)
      go false y = ap (ltb (rank x)) (put_other p c h (suit x) (eqb-false (suit x) (suit c) y)) ∙ other (eqb-false (suit x) (suit c) y)

  pub raised_has : is_next p c ≡ true → (x : ℕ) → x < 52 → on_foundation (raised p c) x ≡ (on_foundation p x || eqb x c)
  unfolding stacked_on raised put is_next next_on raised_on
  raised_has n x lx = at_suit x (height p (suit c) + 1) (ltb (rank x) (height p (suit x)) || eqb x c) lx same other
    where
      next : rank c ≡ height p (suit c)
      next = eqb-true (rank c) (height p (suit c)) n

      same : suit x ≡ suit c → ltb (rank x) (height p (suit c) + 1) ≡ (ltb (rank x) (height p (suit x)) || eqb x c)
      same s = go (eqb x c) (ltb (rank x) (height p (suit c))) refl refl ∙ ap (λ (z : ℕ). ltb (rank x) (height p z) || eqb x c) (sym s)
        where
          go : (a b : Bool) → eqb x c ≡ a → ltb (rank x) (height p (suit c)) ≡ b → ltb (rank x) (height p (suit c) + 1) ≡ (ltb (rank x) (height p (suit c)) || eqb x c)
          go a true y z = rw z (lt-ltb (rank x) (height p (suit c) + 1) (omega (arith, ltb-true (rank x) (height p (suit c)) z)))
          go true false y z =
              let w : rank x ≡ rank c = ap rank (eqb-true x c y) in
              rw (z, y) (lt-ltb (rank x) (height p (suit c) + 1) (omega (arith, next)))
          go false false y z =
              rw (z, y) (le-ltb (rank x) (height p (suit c) + 1) (above (ltb (height p (suit c)) (rank x)) refl))
            where
              above : (b : Bool) → ltb (height p (suit c)) (rank x) ≡ b → height p (suit c) + 1 ≤ rank x
              above true v = omega (arith, ltb-true (height p (suit c)) (rank x) v)
              above false v = absurd (eqb-false x c y (one_card_of x c lx l (omega (arith, next, ltb-false (height p (suit c)) (rank x) v, ltb-false (rank x) (height p (suit c)) z)) s))

      other : (suit x ≡ suit c → ⊥) → ltb (rank x) (height p (suit x)) ≡ (ltb (rank x) (height p (suit x)) || eqb x c)
      other d = sym (ap (λ (b : Bool). ltb (rank x) (height p (suit x)) || b) (ne_eqb x c (λ z. d (ap suit z))) ∙ or-false (ltb (rank x) (height p (suit x))))

  pub lowered_has : is_top p c ≡ true → (x : ℕ) → x < 52 → on_foundation (lowered p c) x ≡ (on_foundation p x && not (eqb x c))
  unfolding stacked_on lowered put is_top lowered_on
  lowered_has n x lx = at_suit x (height p (suit c) - 1) (ltb (rank x) (height p (suit x)) && not (eqb x c)) lx same other
    where
      top : rank c + 1 ≡ height p (suit c)
      top = eqb-true (rank c + 1) (height p (suit c)) n

      same : suit x ≡ suit c → ltb (rank x) (height p (suit c) - 1) ≡ (ltb (rank x) (height p (suit x)) && not (eqb x c))
      same s = go (eqb x c) (ltb (rank x) (height p (suit c))) refl refl ∙ ap (λ (z : ℕ). ltb (rank x) (height p z) && not (eqb x c)) (sym s)
        where
          go : (a b : Bool) → eqb x c ≡ a → ltb (rank x) (height p (suit c)) ≡ b → ltb (rank x) (height p (suit c) - 1) ≡ (ltb (rank x) (height p (suit c)) && not (eqb x c))
          go a false y z = rw z (le-ltb (rank x) (height p (suit c) - 1) (omega (arith, ltb-false (rank x) (height p (suit c)) z)))
          go true true y z =
              let w : rank x ≡ rank c = ap rank (eqb-true x c y) in
              rw (z, y) (le-ltb (rank x) (height p (suit c) - 1) (omega (arith, top)))
          go false true y z =
              rw (z, y) (lt-ltb (rank x) (height p (suit c) - 1) (below (ltb (rank x) (height p (suit c) - 1)) refl))
            where
              below : (b : Bool) → ltb (rank x) (height p (suit c) - 1) ≡ b → rank x < height p (suit c) - 1
              below true v = ltb-true (rank x) (height p (suit c) - 1) v
              below false v = absurd (eqb-false x c y (one_card_of x c lx l (omega (arith, top, ltb-false (rank x) (height p (suit c) - 1) v, ltb-true (rank x) (height p (suit c)) z)) s))

      other : (suit x ≡ suit c → ⊥) → ltb (rank x) (height p (suit x)) ≡ (ltb (rank x) (height p (suit x)) && not (eqb x c))
      other d = sym (ap (λ (b : Bool). ltb (rank x) (height p (suit x)) && not b) (ne_eqb x c (λ z. d (ap suit z))) ∙ and-true (ltb (rank x) (height p (suit x))))
