-- What `text` gives is at the front of its buffer, and what is read stands for the whole input.
use Rattle.std.proofs.Common.{◌≡◌, ◌++◌, ◌<◌, ℕ, List, arith, length, take, ap₂, ◌∙◌, subst, le_refl, take_all}
use lib.Seq.{take-append-le, length-take-le}
use Rattle.std.specs.Prelude.{Option, None, Some, IfSome}
use Rattle.std.specs.Io.KnownBytes.{Appends, Consumes, IsAtEnd}
use Rattle.std.proofs.lemmas.Result.{on_ok_weaker}
use Rattle.rules.specs.Show.{show_text}
use Rattle.show.proofs.Cut.{read}
use Rattle.show.proofs.run.Goals as goal

front : (k : ℕ) (s out r : List ℕ) → k ≡ length s → out ≡ s ++ r → take k out ≡ s
front k s out r e o = ap₂ take e o ∙ take-append-le (length s) s r (le_refl (length s)) ∙ take_all (length s) s (le_refl (length s))

wrote : (known after : Option (List ℕ)) (bs w : List ℕ) (old new : Option (List ℕ)) → Consumes known after bs → (length bs < 4096 → IsAtEnd after) → w ≡ show_text bs → Appends old new w → IfSome known (λ xs. Appends old new (show_text xs))
wrote None after bs w old new e h t a = tt
wrote (Some xs) after bs w old new e h t a = subst (Appends old new) (t ∙ read bs xs after e h) a

pub returns : goal.returns
returns g c =
    let n = c.in_ok-n.n in
    let buf = c.read_full.new.buf in
    let got = c.in_ok-n.ensures in
    let told = c.text-k.ensures in
    on_ok_weaker _
    (wrote _ _ (take n buf) _ _ _ got.bytes (λ few. got.end (omega (arith, length-take-le n buf got.in_bounds.0))) (front c.text-k.result (show_text (take n buf)) _ _ told.0 told.1))
    c.write_all.ensures.bytes
