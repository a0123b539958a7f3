-- A pile whose head is taken away: which cards are heads, which are buried, how many heads there are. Assumes nothing.
use mathlib.Core.Bool.{Bool, true, false, not, ◌&&◌, ◌||◌, and-true, and-false, or-false}
use mathlib.Core.List.{List}
use mathlib.Core.Logic.{◌⊎◌, inl, inr}
use mathlib.Core.Path.{◌≡◌, refl, sym, ap, ap₂, ◌∙◌, subst}
use Prim.Native.Nat.{ℕ, zero, suc, ◌+◌, ◌-◌, ◌≤◌, ◌<◌, zero-le, suc-le-suc}
use native.Mathlib.Omega.{arith}
use lib.Dec.{eqb, ltb}
use lib.ListN.{get_or}
use borrow.Author.Tests.{eqb-true, eqb-false, eq-eqb, ne_eqb, lt-ltb, le-ltb, ltb-true, ltb-false}
use Rattle.rules.specs.declared.Position.{Position}
use Rattle.rules.specs.Bits.{num, count_of}
use Rattle.rules.specs.Places.{pile_start, pile_card, stock_card, count, has_head, is_head, is_buried}
use Rattle.rules.specs.Proper.{are_cards, are_different, deal_right}
use Rattle.bits.proofs.Searches.{num_le}
use Rattle.rules.proofs.Facts.{head_count}
use Rattle.rules.proofs.Placed.{InPile, InStock, same_place, not_stock, located, head_at_lem, buried_at_lem, stock_head, stock_buried}

abbrev pub Fits : Position → Type 0
Fits p = (j : ℕ) → j < 7 → count p j ≤ j + 1

-- q has p's deal, and p's counts but for pile i, which has one less
pub record Fewer (p q : Position) (i : ℕ) : Type 0 where
  pub deal : q.deal ≡ p.deal
  pub here : count q i ≡ count p i - 1
  pub there : (j : ℕ) → (j ≡ i → ⊥) → count q j ≡ count p j

-- x is the card under the head of pile i
unfoldable pub is_under : Position → ℕ → ℕ → Bool
is_under p i x = ltb 1 (count p i) && eqb x (pile_card p i (count p i - 2))

no_second : (n k : ℕ) → (n ≡ k + 2 → ⊥) → (ltb 1 n && eqb k (n - 2)) ≡ false
no_second n k h = go (ltb 1 n) refl
  where
    go : (b : Bool) → ltb 1 n ≡ b → (b && eqb k (n - 2)) ≡ false
    go true y = ne_eqb k (n - 2) (λ e. h (omega (arith, ltb-true 1 n y)))
    go false y = refl

-- place k of a pile of n is the last, is before the last; the same with n - 1
last_of_lem : ℕ → ℕ → Bool
last_of_lem n k = eqb n (k + 1)

before_last : ℕ → ℕ → Bool
before_last n k = ltb (k + 1) n

loses : Bool → Bool → Bool → Bool
loses a e t = (a && not e) || t

rises : Bool → Bool → Bool → Bool
rises a e t = a && not t

last_less : (n k : ℕ) → 0 < n → last_of_lem (n - 1) k ≡ loses (last_of_lem n k) (eqb k (n - 1)) (ltb 1 n && eqb k (n - 2))
unfolding last_of_lem loses
last_less n k h = go (eqb n (k + 1)) (eqb n (k + 2)) refl refl
  where
    go : (a b : Bool) → eqb n (k + 1) ≡ a → eqb n (k + 2) ≡ b → eqb (n - 1) (k + 1) ≡ ((eqb n (k + 1) && not (eqb k (n - 1))) || (ltb 1 n && eqb k (n - 2)))
    go true b y z =
        let e : n ≡ k + 1 = eqb-true n (k + 1) y in
        rw (y, ne_eqb (n - 1) (k + 1) (λ w. omega arith), eq-eqb k (n - 1) (omega arith), no_second n k (λ w. omega arith))
    go false true y z =
        let e : n ≡ k + 2 = eqb-true n (k + 2) z in
        rw (y, eq-eqb (n - 1) (k + 1) (omega arith), lt-ltb 1 n (omega arith), eq-eqb k (n - 2) (omega arith))
    go false false y z =
        let f : n ≡ k + 2 → ⊥ = eqb-false n (k + 2) z in
        rw (y, ne_eqb (n - 1) (k + 1) (λ w. f (omega arith)), no_second n k f)

before_less : (n k : ℕ) → 0 < n → before_last (n - 1) k ≡ rises (before_last n k) (eqb k (n - 1)) (ltb 1 n && eqb k (n - 2))
unfolding before_last rises
before_less n k h = go (eqb n (k + 2)) (ltb (k + 2) n) refl refl
  where
    go : (a b : Bool) → eqb n (k + 2) ≡ a → ltb (k + 2) n ≡ b → ltb (k + 1) (n - 1) ≡ (ltb (k + 1) n && not (ltb 1 n && eqb k (n - 2)))
    go true b y z =
        let e : n ≡ k + 2 = eqb-true n (k + 2) y in
        rw (le-ltb (k + 1) (n - 1) (omega arith), lt-ltb (k + 1) n (omega arith), lt-ltb 1 n (omega arith), eq-eqb k (n - 2) (omega arith))
    go false true y z =
        let l : k + 2 < n = ltb-true (k + 2) n z in
        rw (lt-ltb (k + 1) (n - 1) (omega arith), lt-ltb (k + 1) n (omega arith), no_second n k (λ w. omega arith))
    go false false y z =
        let l : n < k + 2 = omega (arith, eqb-false n (k + 2) y, ltb-false (k + 2) n z) in
        rw (le-ltb (k + 1) (n - 1) (omega arith), le-ltb (k + 1) n (omega arith))

module _ (p q : Position) (i : ℕ) (d : deal_right p ≡ true) (n : Fits p) (hi : i < 7) (pos : 0 < count p i) (f : Fewer p q i) where
  pub fewer_deal : deal_right q ≡ true
  unfolding deal_right
  fewer_deal = ap (λ (l : List ℕ). are_cards l && are_different l) f.deal ∙ d

  pub fewer_card : (j k : ℕ) → pile_card q j k ≡ pile_card p j k
  fewer_card j k = ap (λ (l : List ℕ). get_or l (pile_start j + k) 0) f.deal

  fewer_stock : (k : ℕ) → stock_card q k ≡ stock_card p k
  fewer_stock k = ap (λ (l : List ℕ). get_or l (28 + k) 0) f.deal

  pub fewer_fits : Fits q
  fewer_fits j hj = go (eqb j i) refl
    where
      go : (b : Bool) → eqb j i ≡ b → count q j ≤ j + 1
      go true y =
          let e : j ≡ i = eqb-true j i y in
          let c : count q j ≡ count q i = ap (count q) e in
          omega (arith, f.here, n i hi)
      go false y = omega (arith, f.there j (eqb-false j i y), n j hj)

  -- cards of piles are equal where their places are
  beside : (k m : ℕ) → k ≤ i → m ≤ i → eqb (pile_card p i k) (pile_card p i m) ≡ eqb k m
  beside k m hk hm = go (eqb k m) refl
    where
      go : (b : Bool) → eqb k m ≡ b → eqb (pile_card p i k) (pile_card p i m) ≡ eqb k m
      go true y = eq-eqb (pile_card p i k) (pile_card p i m) (ap (pile_card p i) (eqb-true k m y)) ∙ sym y
      go false y = ne_eqb (pile_card p i k) (pile_card p i m) (λ e. eqb-false k m y (same_place p d i k i m hi hk hi hm e).1) ∙ sym y

  -- a test A that a card passes by its pile's count alone, as g says, and that no card of the 24 passes
  module _ (A : Position → ℕ → Bool) (g : ℕ → ℕ → Bool) (R : Bool → Bool → Bool → Bool)
      (pile : (r : Position) → deal_right r ≡ true → Fits r → (j k : ℕ) → j < 7 → k ≤ j → A r (pile_card r j k) ≡ g (count r j) k)
      (stock : (r : Position) → deal_right r ≡ true → Fits r → (m : ℕ) → m < 24 → A r (stock_card r m) ≡ false)
      (less : (m k : ℕ) → 0 < m → g (m - 1) k ≡ R (g m k) (eqb k (m - 1)) (ltb 1 m && eqb k (m - 2)))
      (kept : (a : Bool) → R a false false ≡ a) where
    now_at : (j k : ℕ) → j < 7 → k ≤ j → A q (pile_card p j k) ≡ g (count q j) k
    now_at j k hj hk = ap (A q) (sym (fewer_card j k)) ∙ pile q fewer_deal fewer_fits j k hj hk

    in_pile : (k : ℕ) → k ≤ i → A q (pile_card p i k) ≡ R (A p (pile_card p i k)) (eqb (pile_card p i k) (pile_card p i (count p i - 1))) (is_under p i (pile_card p i k))
    unfolding is_under
    in_pile k hk =
        now_at i k hi hk ∙ ap (λ (m : ℕ). g m k) f.here ∙ less (count p i) k pos
        ∙ sym (ap₂ (λ (a b : Bool). R a b (ltb 1 (count p i) && eqb (pile_card p i k) (pile_card p i (count p i - 2)))) (pile p d n i k hi hk) (beside k (count p i - 1) hk (omega (arith, n i hi)))
        ∙ ap (λ (b : Bool). R (g (count p i) k) (eqb k (count p i - 1)) (ltb 1 (count p i) && b)) (beside k (count p i - 2) hk (omega (arith, n i hi))))

    -- x is none of pile i's cards
    elsewhere : (x : ℕ) → A q x ≡ A p x → ((m : ℕ) → m ≤ i → x ≡ pile_card p i m → ⊥) → A q x ≡ R (A p x) (eqb x (pile_card p i (count p i - 1))) (is_under p i x)
    unfolding is_under
    elsewhere x e none =
        e ∙ sym (kept (A p x))
        ∙ sym (ap₂ (R (A p x)) (ne_eqb x (pile_card p i (count p i - 1)) (none (count p i - 1) (omega (arith, n i hi))))
        (ap (λ (b : Bool). ltb 1 (count p i) && b) (ne_eqb x (pile_card p i (count p i - 2)) (none (count p i - 2) (omega (arith, n i hi)))) ∙ and-false (ltb 1 (count p i))))

    pub at_card : (x : ℕ) → x < 52 → A q x ≡ R (A p x) (eqb x (pile_card p i (count p i - 1))) (is_under p i x)
    at_card x lx = by (located p d x lx)
      where
        S : ℕ → Type 0
        S y = A q y ≡ R (A p y) (eqb y (pile_card p i (count p i - 1))) (is_under p i y)

        by : InPile p x ⊎ InStock p x → S x
        by (inl u) = subst S u.there (go (eqb u.pile i) refl)
          where
            go : (b : Bool) → eqb u.pile i ≡ b → S (pile_card p u.pile u.depth)
            go true y =
                let e : u.pile ≡ i = eqb-true u.pile i y in
                subst (λ (j : ℕ). S (pile_card p j u.depth)) (sym e) (in_pile u.depth (omega (arith, u.inside)))
            go false y =
                elsewhere (pile_card p u.pile u.depth)
                (now_at u.pile u.depth u.is_pile u.inside ∙ ap (λ (m : ℕ). g m u.depth) (f.there u.pile (eqb-false u.pile i y)) ∙ sym (pile p d n u.pile u.depth u.is_pile u.inside))
                (λ m hm e. eqb-false u.pile i y (same_place p d u.pile u.depth i m u.is_pile u.inside hi hm e).0)
        by (inr u) =
            subst S u.there
            (elsewhere (stock_card p u.place) (ap (A q) (sym (fewer_stock u.place)) ∙ stock q fewer_deal fewer_fits u.place u.inside ∙ sym (stock p d n u.place u.inside))
            (λ m hm e. not_stock p d i m u.place hi hm u.inside (sym e)))

  -- the head is one no more, and the card under it is one
  pub head_uncovered : (x : ℕ) → x < 52 → is_head q x ≡ ((is_head p x && not (eqb x (pile_card p i (count p i - 1)))) || is_under p i x)
  unfolding last_of_lem loses
  head_uncovered = at_card is_head last_of_lem loses head_at_lem stock_head last_less (λ a. or-false (a && true) ∙ and-true a)

  -- the card under the head is buried no more
  pub buried_uncovered : (x : ℕ) → x < 52 → is_buried q x ≡ (is_buried p x && not (is_under p i x))
  unfolding before_last rises
  buried_uncovered = at_card is_buried before_last rises buried_at_lem stock_buried before_less and-true

  -- there are as many heads, or one less
  pub heads_uncovered : head_count q ≤ head_count p
  unfolding head_count count_of
  heads_uncovered = fewer_of 7 (has_head q) (has_head p) at
    where
      fewer_of : (m : ℕ) (a b : ℕ → Bool) → ((j : ℕ) → j < m → num (a j) ≤ num (b j)) → count_of m a ≤ count_of m b
      fewer_of zero a b h = zero-le
      fewer_of (suc m) a b h = omega (arith, h 0 (suc-le-suc zero-le), fewer_of m (λ j. a (suc j)) (λ j. b (suc j)) (λ j l. h (suc j) (suc-le-suc l)))

      at : (j : ℕ) → j < 7 → num (has_head q j) ≤ num (has_head p j)
      at j hj = go (eqb j i) refl
        where
          go : (b : Bool) → eqb j i ≡ b → num (ltb 0 (count q j)) ≤ num (ltb 0 (count p j))
          go true y =
              let c : num (ltb 0 (count p j)) ≡ 1 = ap num (ap (λ (z : ℕ). ltb 0 (count p z)) (eqb-true j i y) ∙ lt-ltb 0 (count p i) pos) in
              omega (arith, num_le (ltb 0 (count q j)))
          go false y = let c : num (ltb 0 (count q j)) ≡ num (ltb 0 (count p j)) = ap (λ (z : ℕ). num (ltb 0 z)) (f.there j (eqb-false j i y)) in omega arith
