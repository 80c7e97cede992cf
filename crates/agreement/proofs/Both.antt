-- One call in both pools: the same answer and decided move, the relation after it, and what is written.
use mathlib.Core.Path.{◌≡◌, refl, sym}
use mathlib.Core.Bool.{Bool, true, false, cond}
use mathlib.Core.List.{List, [], ◌∷◌}
use Prim.Native.Nat.{ℕ, ◌^◌, ◌≤◌, ◌<◌}
use Rattle.limits.specs.Limits.{DESCRIPTORS}
use Rattle.rows.specs.Branch.{if}
use Rattle.rows.specs.Totals.{total}
use Rattle.fields.specs.Columns.{Field, View, assigned, Has, first_byte, width, Sound}
use Rattle.fields.specs.Little.{Bytes}
use Rattle.fields.proofs.Little.{get_le-lt}
use Rattle.links.specs.Link.{LinkWrite, ◌⇒◌, with_links}
use Rattle.plain.specs.State.{Mem}
use Rattle.plain.specs.Moves.{Answer}
use Rattle.plain.specs.Steps.{Result}
use Rattle.plain.specs.HolderWeights.{inside_weight}
use Rattle.control.specs.Layout.{layout, seen, Tasks, Regions}
use Rattle.control.specs.Answers.{code_of, value_of}
use Rattle.stepped.specs.Outcome.{Outcome, bad}
use Rattle.agreement.specs.Contents.{Contents, contents_of}
use Rattle.agreement.specs.Relation.{Related}

-- the code, the value and the decided move of an outcome
abbrev pub answer_of : Outcome → Answer
answer_of o = record { code = code_of o.answer; value = value_of o.answer; decided = o.decided }

-- the memories after an outcome, column by column
abbrev pub afterwards : Outcome → View → List ℕ → Contents
afterwards o v area = contents_of (assigned o.writes v) (with_links o.links area)

-- each link is written in a block of an open region that is in no user's hands
abbrev pub Apart : Mem → List LinkWrite → Type 0
Apart m [] = Unit {0}
Apart m ((u ⇒ x) ∷ ls) = ((m.hands u ≡ 0) × (1 ≤ total DESCRIPTORS (inside_weight u) m.descriptor)) × Apart m ls

pub record Both (regions : ℕ) (v : View) (area : List ℕ) (m : Mem) (o : Outcome) (y : Result) : Type 0 where
  pub says : answer_of o ≡ y.1
  pub rel : Related regions (afterwards o v area) y.0
  pub keeps : (assigned o.writes v Tasks ≡ v Tasks) × (assigned o.writes v Regions ≡ v Regions)
  pub sound : Sound layout o.writes
  pub apart : Apart m o.links

-- each field holds a number of its width, as those of bytes do
abbrev pub Fitting : View → Type 0
Fitting v = (f : Field) → Has layout f → v f < 256 ^ width layout f

-- what stands in bytes fits
pub seen-fitting : (b : List ℕ) → Bytes b → Fitting (seen b)
seen-fitting b h f k = get_le-lt b (first_byte layout f) (width layout f) h

-- ---- tests

module _ {regions : ℕ} {v : View} {area : List ℕ} {m : Mem} where
  -- a test against 14 that is met
  pub pass : {o : Outcome} {y : Result} (b : Bool) → b ≡ true → Both regions v area m o y
      → Both regions v area m (cond b o bad) y
  pass true e h = h
  pass false e h = absurd (mathlib.Core.Bool.false≢true e)

  -- a test that is met, where o' is what follows otherwise
  pub meet : {o : Outcome} (o' : Outcome) {y : Result} (b : Bool) → b ≡ true → Both regions v area m o y
      → Both regions v area m (cond b o o') y
  meet o' true e h = h
  meet o' false e h = absurd (mathlib.Core.Bool.false≢true e)

  -- a test that is not met, where o would follow otherwise
  pub miss : (o : Outcome) {o' : Outcome} {y : Result} (b : Bool) → b ≡ false → Both regions v area m o' y
      → Both regions v area m (cond b o o') y
  miss o true e h = absurd (mathlib.Core.Bool.false≢true (sym e))
  miss o false e h = h

  -- a test of the stepped pool alone
  pub choose : {o o' : Outcome} {y : Result} (b : Bool) → (b ≡ true → Both regions v area m o y)
      → (b ≡ false → Both regions v area m o' y) → Both regions v area m (cond b o o') y
  choose true h k = h refl
  choose false h k = k refl

  -- one test each, that come out alike
  pub decide : {Q : Type 0} {o o' : Outcome} {y y' : Result} (b : Bool) (e : Dec Q) → (b ≡ true → Q) → (Q → b ≡ true)
      → (b ≡ true → Q → Both regions v area m o y) → (b ≡ false → ¬ Q → Both regions v area m o' y')
      → Both regions v area m (cond b o o') (if e y y')
  decide true (yes q) f g h k = h refl q
  decide true (no n) f g h k = absurd (n (f refl))
  decide false (yes q) f g h k = absurd (mathlib.Core.Bool.false≢true (g q))
  decide false (no n) f g h k = k refl n

  -- a read that finds the row q empty, or not
  pub by_row : {o o' : Outcome} (b : Bool) (F : List ℕ → Result) (q : List ℕ) → (q ≡ [] → b ≡ true)
      → ((x : ℕ) (r : List ℕ) → q ≡ x ∷ r → b ≡ false) → (q ≡ [] → Both regions v area m o (F []))
      → ((x : ℕ) (r : List ℕ) → q ≡ x ∷ r → Both regions v area m o' (F (x ∷ r)))
      → Both regions v area m (cond b o o') (F q)
  by_row true F [] f g h k = h refl
  by_row true F (x ∷ r) f g h k = absurd (mathlib.Core.Bool.false≢true (sym (g x r refl)))
  by_row false F [] f g h k = absurd (mathlib.Core.Bool.false≢true (f refl))
  by_row false F (x ∷ r) f g h k = k x r refl

  -- a row that has a top
  pub has-top : {o : Outcome} (F : List ℕ → Result) (q : List ℕ) → (q ≡ [] → ⊥)
      → ((x : ℕ) (r : List ℕ) → q ≡ x ∷ r → Both regions v area m o (F (x ∷ r))) → Both regions v area m o (F q)
  has-top F [] f h = absurd (f refl)
  has-top F (x ∷ r) f h = h x r refl
