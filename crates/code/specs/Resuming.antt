-- What the parts of a resume give.
use Rattle.std.specs.Prelude.{not, ◌&&◌, ℕ, ◌%◌, ◌/◌, ◌^◌, ◌≤◌, ◌<◌, get_or}
use Rattle.rules.specs.declared.Position.{Position}
use Rattle.rules.specs.declared.Started.{Started}
use Rattle.rules.specs.Bits.{mask_of}
use Rattle.rules.specs.Places.{is_head, is_buried, in_deck, on_foundation}
use Rattle.rules.specs.Hidden.{CardsFit, CountsFit}
use Rattle.code.specs.declared.Fields.{Fields}
use Rattle.code.specs.declared.Sets.{Sets}
use Rattle.rules.specs.Proper.{pair_rule, seven_rule}
use Rattle.rules.specs.Fields.{with_visible}
use Rattle.rules.specs.Code.{code_piles, code_offset, worked_out}
use Rattle.rules.specs.Refusals.{◌refuses◌else◌, overlapping, unarranged}
use Rattle.rules.specs.Answers.{overlaps}
use Rattle.deal.specs.Starts.{started_by}

-- the four fields of a code: "Bits 0-15", "Bits 16-31", "Bits 32-55", "Bits 56-63"
unfoldable pub fields_of : ℕ → Fields
fields_of x = record { heights = x % 2 ^ 16; piles = code_piles x; deck = x / 2 ^ 32 % 2 ^ 24; offset = code_offset x }

-- the numbers of a position are in their ranges, and the deck's cards left are cards
pub record Ranged (p : Position) : Type 0 where
  pub cards : CardsFit p.deal
  pub counts : CountsFit p.counts
  pub heights : (s : ℕ) → s < 4 → get_or p.heights s 0 ≤ 13
  pub left : p.left ≤ 24
  pub deck : (k : ℕ) → k < p.left → get_or p.deck k 0 < 52

-- the cards by where they lie
unfoldable pub sets_of : Position → Sets
sets_of p = record { foundation = mask_of 52 (on_foundation p); deck = mask_of 52 (in_deck p); buried = mask_of 52 (is_buried p); heads = mask_of 52 (is_head p) }

-- the position with its visible mask worked out
abbrev pub worked : Position → Position
worked p = with_visible p (worked_out p)

-- the last two tests of a resume
unfoldable pub arrange_refusal : Position → ℕ
arrange_refusal p =
    overlaps p refuses overlapping else
    not (pair_rule p && seven_rule p) refuses unarranged else
    0

unfoldable pub arrange_answer : Position → Started
arrange_answer p = started_by (arrange_refusal (worked p)) (worked p)
