-- A game written as a table, a row for each call: the call, what the player sees of it, and the position that it gives. Where each row is right by itself,
-- the answers and the positions of the whole run are those of the table. Two such games may meet the hypotheses of demand 3. Assumes nothing.
use mathlib.Core.Bool.{Bool, true, ◌&&◌, ◌||◌}
use mathlib.Core.Path.{◌≡◌, refl, sym, ap, ◌∙◌, subst}
use mathlib.Core.List.{List, [], ◌∷◌, map}
use Prim.Native.Nat.{ℕ, ◌<◌}
use lib.Dec.{T, eqb}
use lib.ListN.{get_or}
use Rattle.rules.specs.declared.Position.{Position}
use Rattle.rules.specs.declared.Started.{Started}
use Rattle.rules.specs.Bits.{all_of}
use Rattle.rules.specs.Secrecy.{Call, next, seen, answers_from, made_from, answers_of, positions_of, stays_buried, Start, started}
use Rattle.bits.proofs.Searches.{all_yes}

-- the call acts on the position that the call so many calls back gave, as in `answers_from`
pub record Row : Type 0 where
  pub back : ℕ
  pub call : Call
  pub sight : List (List ℕ)
  pub gives : Position

abbrev pub row : ℕ → Call → List (List ℕ) → Position → Row
row back call sight gives = record { back = back; call = call; sight = sight; gives = gives }

-- the columns of a table
abbrev pub calls_of : List Row → List (ℕ × Call)
calls_of rs = map (λ (r : Row). (r.back, r.call)) rs

abbrev pub sights_of : List Row → List (List (List ℕ))
sights_of rs = map (λ (r : Row). r.sight) rs

abbrev pub given_of : List Row → List Position
given_of rs = map (λ (r : Row). r.gives) rs

-- what is seen of each row's call, and the position that it gives, where the rows before it gave what the table says. s is the game's first position, ps are
-- those so far, latest first
unfoldable pub seen_by : Position → List Position → List Row → List (List (List ℕ))
seen_by s ps [] = []
seen_by s ps (r ∷ rs) = seen ps (get_or ps r.back s) r.call ∷ seen_by s (r.gives ∷ ps) rs

unfoldable pub made_by : Position → List Position → List Row → List Position
made_by s ps [] = []
made_by s ps (r ∷ rs) = next (get_or ps r.back s) r.call ∷ made_by s (r.gives ∷ ps) rs

-- where the positions are the table's, the run goes through them
rows_run : (s : Position) (ps : List Position) (rs : List Row) → made_by s ps rs ≡ given_of rs → (answers_from s ps (calls_of rs) ≡ seen_by s ps rs) × (made_from s ps (calls_of rs) ≡ given_of rs)
unfolding answers_from made_from seen_by made_by
rows_run s ps [] h = (refl, refl)
rows_run s ps (r ∷ rs) h =
    let e : next (get_or ps r.back s) r.call ≡ r.gives = ap (λ (l : List Position). get_or l 0 s) h in
    let k = rows_run s (r.gives ∷ ps) rs (ap others h) in
    (rw (e, k.0), rw (e, k.1))
  where
    others : List Position → List Position
    others [] = []
    others (q ∷ qs) = qs

-- a game that began as x: it begins with the position s, and goes on with these calls as the table says
pub record Game (x : Started) (s : Position) (cs : List (ℕ × Call)) (rs : List Row) : Type 0 where
  pub accepted : x.refusal ≡ 0
  pub answers : answers_of x.position cs ≡ sights_of rs
  pub positions : positions_of x.position cs ≡ s ∷ given_of rs

-- it is enough that each row is right
pub game : (x : Started) (s : Position) (cs : List (ℕ × Call)) (rs : List Row) → x ≡ record { refusal = 0; position = s } → calls_of rs ≡ cs → seen_by s (s ∷ []) rs ≡ sights_of rs → made_by s (s ∷ []) rs ≡ given_of rs → Game x s cs rs
unfolding answers_of positions_of
game x s cs rs b c h g =
    let k = rows_run s (s ∷ []) rs g in
    rw (b, ← c) (record { accepted = refl; answers = k.0 ∙ h; positions = ap (λ (qs : List Position). s ∷ qs) k.1 })

-- ---- two games

-- the hypotheses of `KeepsSecrets`, and that the deals differ
pub record Meets (d e : List ℕ) (step : ℕ) (s : Start) (cs : List (ℕ × Call)) : Type 0 where
  pub differ : d ≡ e → ⊥
  pub one : (started d step s).refusal ≡ 0
  pub two : (started e step s).refusal ≡ 0
  pub hidden :
      (k : ℕ) → k < 52
      → T (eqb (get_or d k 0) (get_or e k 0)
      || (stays_buried (positions_of (started d step s).position cs) k && stays_buried (positions_of (started e step s).position cs) k))

-- what it promises, with the answers written out: both games answer so
abbrev pub Answer : List ℕ → List ℕ → ℕ → Start → List (ℕ × Call) → List (List (List ℕ)) → Type 0
Answer d e step s cs a = (answers_of (started d step s).position cs ≡ a) × (answers_of (started e step s).position cs ≡ a)

-- a place where the deals differ stays buried, as one test
unfoldable pub stays_hidden : List ℕ → List ℕ → List Position → List Position → Bool
stays_hidden d e ps qs = all_of 52 (λ k. eqb (get_or d k 0) (get_or e k 0) || (stays_buried ps k && stays_buried qs k))

-- from the two games' tables
pub meets : (d e : List ℕ) (step : ℕ) (start : Start) (cs : List (ℕ × Call)) (s t : Position) (rs us : List Row) → (d ≡ e → ⊥) → Game (started d step start) s cs rs → Game (started e step start) t cs us → stays_hidden d e (s ∷ given_of rs) (t ∷ given_of us) ≡ true → Meets d e step start cs
unfolding stays_hidden
meets d e step start cs s t rs us n g k h =
    record {
      differ = n;
      one = g.accepted;
      two = k.accepted;
      hidden =
          λ j l. rw (g.positions, k.positions)
          (subst T (sym (all_yes 52 (λ i. eqb (get_or d i 0) (get_or e i 0) || (stays_buried (s ∷ given_of rs) i && stays_buried (t ∷ given_of us) i)) h j l)) tt);
    }
