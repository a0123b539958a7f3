-- What the masks start from, each as the mask of a test of document 01.
use Rattle.bits.specs.Bit.{mask_of}
use Rattle.rules.specs.declared.Position.{Position}
use Rattle.rules.specs.Cards.{pair}
use Rattle.rules.specs.Places.{is_head, is_visible, alone}
use Rattle.rules.specs.Legal.{is_open, is_next}
use Rattle.legal.specs.declared.Sight.{Sight}

unfoldable pub sight : Position → Sight
sight p =
    record {
      vis = mask_of 52 (is_visible p);
      locked = mask_of 52 (is_head p);
      alone = mask_of 52 (alone p);
      bm = mask_of 52 (λ c. is_open p (pair c));
      sm = mask_of 56 (is_next p);
    }
