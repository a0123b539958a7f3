-- No card is buried, and how many are, as read off the list of the counts.
-- Assumes nothing.
use Rattle.std.proofs.Common.{◌≡◌, refl, sym, ap, ◌∙◌, ℕ, ◌+◌, ◌-◌, ◌≤◌, List, [], ◌∷◌, Bool, get_or, length, leb, sum_by, arith}
use Rattle.std.specs.List.{list_all}
use Rattle.std.proofs.lemmas.List.Sums.{sum_by-cons}
use Rattle.bits.proofs.Lists.{all_of_list}
use Rattle.rules.specs.Hidden.{CountsFit, all_up, sum_of, down_cards}

pub all_up_list : (counts : List ℕ) (b : Bool) → length counts ≡ 7 → b ≡ list_all (λ x. leb x 1) counts → b ≡ all_up counts
unfolding all_up
all_up_list counts b long e = rw (← long) (e ∙ sym (all_of_list (λ x. leb x 1) counts))

sum_of_list : (f : ℕ → ℕ) (xs : List ℕ) → sum_of (length xs) (λ k. f (get_or xs k 0)) ≡ sum_by f xs
unfolding sum_of
sum_of_list f [] = refl
sum_of_list f (x ∷ xs) = ap (λ (s : ℕ). f x + s) (sum_of_list f xs) ∙ sym (sum_by-cons f x xs)

pub down_list : (counts : List ℕ) → length counts ≡ 7 → sum_by (λ x. x - 1) counts ≡ down_cards counts
unfolding down_cards
down_list counts long = rw (← long) (sym (sum_of_list (λ x. x - 1) counts))

pub down_few : (counts : List ℕ) → CountsFit counts → down_cards counts ≤ 21
unfolding down_cards sum_of
down_few counts fit =
    omega (arith, fit 0 (omega arith), fit 1 (omega arith), fit 2 (omega arith), fit 3 (omega arith), fit 4 (omega arith), fit 5 (omega arith), fit 6 (omega arith))
