-- A position's record is spelled out in this file and nowhere else among the definitions: the blank one, and a position with one of its parts replaced.
-- Document 01: "A position holds the deal, step 1 to 24, seven counts n_i from 0 to i+1, four foundation heights 0 to 13, the deck cards left (in deal order), an
-- offset 0 to their number, and the visible mask."
use Rattle.std.specs.Prelude.{List, ℕ, replicate}
use Rattle.rules.specs.declared.Position.{Position}

-- "the blank one: all numbers 0"
abbrev pub blank : Position
blank =
    record {
      deal = replicate 52 0;
      step = 0;
      counts = replicate 7 0;
      heights = replicate 4 0;
      deck = replicate 24 0;
      left = 0;
      offset = 0;
      visible = 0;
    }

-- of another deal; with another step; other counts; other heights; other slots of the deck, so many of them cards left; another offset; another visible mask
abbrev pub with_deal : Position → List ℕ → Position
with_deal p d = record { deal = d; step = p.step; counts = p.counts; heights = p.heights; deck = p.deck; left = p.left; offset = p.offset; visible = p.visible }

abbrev pub with_step : Position → ℕ → Position
with_step p s = record { deal = p.deal; step = s; counts = p.counts; heights = p.heights; deck = p.deck; left = p.left; offset = p.offset; visible = p.visible }

abbrev pub with_counts : Position → List ℕ → Position
with_counts p n = record { deal = p.deal; step = p.step; counts = n; heights = p.heights; deck = p.deck; left = p.left; offset = p.offset; visible = p.visible }

abbrev pub with_heights : Position → List ℕ → Position
with_heights p h = record { deal = p.deal; step = p.step; counts = p.counts; heights = h; deck = p.deck; left = p.left; offset = p.offset; visible = p.visible }

abbrev pub with_slots : Position → List ℕ → ℕ → Position
with_slots p d l = record { deal = p.deal; step = p.step; counts = p.counts; heights = p.heights; deck = d; left = l; offset = p.offset; visible = p.visible }

abbrev pub with_offset : Position → ℕ → Position
with_offset p o = record { deal = p.deal; step = p.step; counts = p.counts; heights = p.heights; deck = p.deck; left = p.left; offset = o; visible = p.visible }

abbrev pub with_visible : Position → ℕ → Position
with_visible p v = record { deal = p.deal; step = p.step; counts = p.counts; heights = p.heights; deck = p.deck; left = p.left; offset = p.offset; visible = v }
