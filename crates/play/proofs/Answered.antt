-- What a call's yes or no says of what it ensures.
-- Assumes nothing.
use mathlib.Core.Bool.{Bool, true, false}
use mathlib.Core.Path.{◌≡◌, sym, ◌∙◌}

module _ {r b : Bool} (e : r ≡ b) where
  pub denied : r ≡ false → b ≡ false
  denied h = sym e ∙ h

  pub granted : r ≡ true → b ≡ true
  granted h = sym e ∙ h
