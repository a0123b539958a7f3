-- An entry that has no way back is impossible: the tests that go before the unmaking refuse nothing that undo would grant.
-- Assumes nothing.
use mathlib.Core.Bool.{Bool, true, false, not, ◌&&◌, ◌||◌, cond, true≢false}
use mathlib.Core.Path.{◌≡◌, refl, sym, ap, ap₂, ◌∙◌, subst}
use mathlib.Core.List.{List}
use Prim.Native.Nat.{ℕ, zero, suc, ◌+◌, ◌-◌, ◌≤◌, ◌<◌}
use native.Mathlib.Omega.{arith}
use lib.Dec.{eqb, ltb, leb}
use lib.ListN.{length, get_or, set}
use lib.Seq.{get_or-set_same}
use borrow.Author.Tests.{eqb-true, eqb-false, eq-eqb, lt-ltb, le-leb}
use Rattle.rules.specs.declared.Position.{Position}
use Rattle.rules.specs.Bits.{num, first_of}
use Rattle.rules.specs.Places.{pile_start, pile_card, count, is_head, pile_of}
use Rattle.rules.specs.Hidden.{bare_of, bare_pile}
use Rattle.rules.specs.Proper.{proper}
use Rattle.rules.specs.Legal.{legal, reveal_legal, has_room}
use Rattle.rules.specs.History.{entry_byte, entry_kind, entry_card, is_kind_and_card, same_position, step_back, undoable}
use Rattle.rules.specs.Play.{lowered, laid, lifted, put_back, covered, before, after, undo_byte}
use Rattle.bits.proofs.Searches.{and_left, and_both, first_least, is_false}
use Rattle.rules.proofs.Facts.{Facts, facts_of as facts}
use Rattle.facts.proofs.DealKept.{pile_of_deal}
use Rattle.rules.proofs.Placed.{HeadOf, head_of_lem}
use Rattle.facts.proofs.TurnedBack.{back_stays}
use Rattle.facts.proofs.UndoTest.{passes as undo_passes}
use Rattle.std.specs.Bool.{then_some}
use Rattle.play.specs.Made.{left_pile, has_way}
use Rattle.std.proofs.Common.{Some, None, Result}
use Rattle.std.specs.Prelude.{⊤}
use Rattle.std.specs.Result.{is_err}
use Rattle.rules.specs.declared.Refusal.{Refusal}
use Rattle.rules.specs.declared.Refusal.TheVariants.{NoSuchMove}
use Rattle.rules.specs.Results.{passes}
use Rattle.std.proofs.lemmas.Option.{cond_some, none-some}
use Rattle.play.specs.Undone.{leads_to, undone}

-- ---- a head that is back on its pile had left it

module _ (p r : Position) (c : ℕ) (d : r.deal ≡ p.deal) (n : r.counts ≡ p.counts) (long : length p.counts ≡ 7) where
  abbrev q : Position
  q = covered r (pile_of p c)

  deal : q.deal ≡ p.deal
  deal = (back_stays r (pile_of p c)).deal ∙ d

  pile : pile_of q c ≡ pile_of p c
  pile = pile_of_deal q p deal c

  counts : q.counts ≡ set p.counts (pile_of p c) (get_or p.counts (pile_of p c) 0 + 1)
  counts = (back_stays r (pile_of p c)).counts ∙ ap (λ (l : List ℕ). set l (pile_of p c) (get_or l (pile_of p c) 0 + 1)) n

  more : pile_of p c < 7 → count q (pile_of p c) ≡ count p (pile_of p c) + 1
  more l = ap (λ (x : List ℕ). get_or x (pile_of p c) 0) counts ∙ get_or-set_same p.counts (pile_of p c) (get_or p.counts (pile_of p c) 0 + 1) 0 (omega (arith, long))

  pub had_left : proper q ≡ true → is_head q c ≡ true → left_pile p c ≡ true
  unfolding left_pile bare_pile
  had_left h t =
      let f : Facts q = facts q h in
      let w : HeadOf q f.deal f.numbers.counts c = head_of_lem q f.deal f.numbers.counts c t in
      let i : ℕ = pile_of p c in
      let l : i < 7 = subst (λ (j : ℕ). j < 7) pile w.is_pile in
      let m : count q i ≡ count p i + 1 = more l in
      let low : count p i ≤ i = omega (arith, f.numbers.counts i l) in
      let at : count q i - 1 ≡ count p i = omega arith in
      let card : get_or p.deal (pile_start i + count p i) 0 ≡ c =
      ap₂ (λ (l : List ℕ) (k : ℕ). get_or l (pile_start i + k) 0) (sym deal) (sym at) ∙ subst (λ (j : ℕ). pile_card q j (count q j - 1) ≡ c) pile w.is in
      let first : first_of 7 (λ j. bare_of p.deal p.counts c j) ≤ i =
      first_least 7 (λ j. bare_of p.deal p.counts c j) i l (and_both (leb (get_or p.counts i 0) i) (eqb (get_or p.deal (pile_start i + get_or p.counts i 0) 0) c) (le-leb (get_or p.counts i 0) i low) (eq-eqb (get_or p.deal (pile_start i + get_or p.counts i 0) 0) c card)) in
      lt-ltb (first_of 7 (λ j. bare_of p.deal p.counts c j)) 7 (omega arith)

-- ---- each kind

module _ (p : Position) (byte c : ℕ) (long : length p.counts ≡ 7) where
  room : (r : Position) → r.left ≡ p.left → proper (put_back r c byte) ≡ true → ltb p.left 24 ≡ true
  unfolding put_back
  room r e h = lt-ltb p.left 24 (omega (arith, (facts (put_back r c byte) h).numbers.left))

  was_head : (b : Bool) → eqb (num b) byte ≡ true → eqb byte 0 ≡ false → b ≡ true
  was_head true e z = refl
  was_head false e z = absurd (eqb-false byte 0 z (sym (eqb-true 0 byte e)))

  pub has_way_lem : (kind : ℕ) → proper (before p byte kind c) ≡ true → legal (before p byte kind c) kind c ≡ true → eqb (undo_byte (before p byte kind c) kind c) byte ≡ true → has_way p byte kind c ≡ true
  unfolding has_way before legal undo_byte reveal_legal lowered laid lifted
  has_way_lem zero h l u = room (lowered p c) refl h
  has_way_lem (suc zero) h l u = go (eqb byte 0) refl h u
    where
      r : Position
      r = laid (lowered p c) c

      back : Position
      back = covered r (pile_of p c)

      go : (b : Bool) → eqb byte 0 ≡ b → proper (cond b r back) ≡ true → eqb (num (is_head (cond b r back) c)) byte ≡ true → (b || left_pile p c) ≡ true
      go true e h u = refl
      go false e h u = had_left p r c refl refl long h (was_head (is_head back c) u e)
  has_way_lem (suc (suc zero)) h l u = room (lifted p c) refl h
  has_way_lem (suc (suc (suc zero))) h l u = refl
  has_way_lem (suc (suc (suc (suc k)))) h l u =
      let q = covered p (pile_of p c) in
      had_left p p c refl refl long h (and_left (is_head q c) (has_room q c) (and_left (is_head q c && has_room q c) _ l))

-- ---- refusal 15, by what the code asks in turn

pub is_admitted : {r : Result ⊤ Refusal} {x b : Bool} → r ≡ passes b NoSuchMove → x ≡ is_err r → not x ≡ b
unfolding passes
is_admitted {r} {x} {b} h e = rw (e, h) (go b)
  where
    go : (b : Bool) → not (is_err (passes b NoSuchMove)) ≡ b
    go true = refl
    go false = refl

module _ (p : Position) (e : ℕ) where
  abbrev pub back : Position
  back = before p (entry_byte e) (entry_kind e) (entry_card e)

  abbrev pub leads : Bool
  leads = leads_to back (entry_byte e) (entry_kind e) (entry_card e) p

  abbrev pub is_move : Bool
  is_move = is_kind_and_card (entry_kind e) (entry_card e)

  pub undoable_is : undoable p e ≡ (is_move && leads)
  unfolding undoable leads_to step_back
  undoable_is = go is_move
    where
      t : Bool → Bool
      t b = b && proper back && legal back (entry_kind e) (entry_card e) && eqb (undo_byte back (entry_kind e) (entry_card e)) (entry_byte e) && same_position (after back (entry_kind e) (entry_card e)) p

      go : (b : Bool) → t b ≡ (b && t true)
      go true = refl
      go false = refl

  pub no_way : length p.counts ≡ 7 → has_way p (entry_byte e) (entry_kind e) (entry_card e) ≡ false → undoable p e ≡ false
  unfolding step_back
  no_way long h =
      is_false (undoable p e)
      (λ u.
      let w = undo_passes p e u in
      true≢false (sym (has_way_lem p (entry_byte e) (entry_card e) long (entry_kind e) w.is_proper w.is_legal w.is_byte) ∙ h))

  pub not_move : is_move ≡ false → undoable p e ≡ false
  not_move h = undoable_is ∙ ap (λ (b : Bool). b && leads) h

  pub none_is : undoable p e ≡ false → None ≡ undone p e
  unfolding undone
  none_is h = rw h refl

  pub then_is : is_move ≡ true → then_some leads back ≡ undone p e
  unfolding undone step_back
  then_is h = rw (undoable_is, h) (go leads)
    where
      go : (b : Bool) → then_some b back ≡ cond b (Some back) None
      go true = refl
      go false = refl

  -- what the answer says
  pub not_back : None ≡ undone p e → undoable p e ≡ false
  unfolding undone
  not_back h = go (undoable p e) h
    where
      go : (b : Bool) → None ≡ cond b (Some (step_back p e)) None → b ≡ false
      go true k = absurd (none-some _ k)
      go false k = refl

  pub back_to : {q : Position} → Some q ≡ undone p e → (undoable p e ≡ true) × (q ≡ step_back p e)
  unfolding undone
  back_to h = let j = cond_some (undoable p e) _ _ (sym h) in (j.0, sym j.1)
