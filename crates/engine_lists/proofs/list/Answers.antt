-- `engine_lists::list` meets its contract.
-- Assumes nothing.
use Rattle.std.proofs.Common.{◌≡◌, refl, sym, ap, ap₂, ◌∙◌, ℕ, Bool, List, [], length, drop, Result, Ok, Err}
use mathlib.Core.Path.{◌≡◌}
use Prim.Native.Nat.{zero, suc}
use lib.ListN.{take}
use lib.Seq.{take_at}
use Rattle.std.specs.Result.{result_unwrap_or}
use Rattle.rules.specs.declared.Position.{Position}
use Rattle.rules.specs.declared.Refusal.{Refusal}
use Rattle.rules.specs.declared.Listed.{Listed}
use Rattle.rules.specs.Legal.{listing}
use Rattle.rules.specs.Answers.{accepted, masks_for, listing_refusal, listing_answer, listing_into, listing_front}
use Rattle.rules.specs.Results.{given_or, listed_of}
use Rattle.engine_lists.proofs.list.Goals as goal

-- as many moves are counted as stand in front
counted : (r : ℕ) (l : List ℕ) → accepted r (length l) 0 ≡ length (accepted r l [])
counted zero l = refl
counted (suc r) l = refl

told : (r : Result ℕ Refusal) → result_unwrap_or r 0 ≡ given_or 0 r
told (Ok n) = refl
told (Err e) = refl

-- the written front of the buffer
front : (asked : Bool) (p : Position) (o x : List ℕ) (n : ℕ) (r : Result ℕ Refusal) → n ≡ result_unwrap_or r 0 → listed_of p r ≡ listing_answer asked p (length o) → x ≡ listing_into asked p o → (n ≡ length (listing_front asked p o)) × (take n x ≡ listing_front asked p o)
unfolding listing_answer listing_into listing_front
front asked p o x n r h e f =
    let k : n ≡ length (listing_front asked p o) = h ∙ told r ∙ ap (λ (y : Listed). y.count) e ∙ counted (listing_refusal asked p (length o)) (listing (masks_for asked p)) in
    (k, ap₂ take k f ∙ take_at (listing_front asked p o) (drop (length (listing_front asked p o)) o) (length (listing_front asked p o)) refl)

pub slice_bounds-result-end : goal.slice_bounds-result-end
slice_bounds-result-end c =
    let l = c.list_into in
    let w = front _ c.args.p c.args.out.now l.new.out _ l.result c.unwrap_or-n.ensures l.ensures.0 l.ensures.1 in
    w.0 ∙ sym (ap length w.1)

pub returns : goal.returns
returns c =
    let l = c.list_into in
    ((front c.args.pruned c.args.p c.args.out.now l.new.out _ l.result c.unwrap_or-n.ensures l.ensures.0 l.ensures.1).1, refl)
