-- The answers of a report behind the tests of the lengths: 14, 23 and 20; and what its function answers and leaves.
use mathlib.Core.Path.{◌≡◌, refl, sym, ap, subst, ◌∙◌}
use mathlib.Core.Bool.{Bool, true, false}
use mathlib.Core.List.{List}
use Prim.Native.Nat.{ℕ, ◌*◌, ◌≤◌, ◌<◌}
use borrow.Author.Tests.{le-leb, lt-leb}
use lib.ListN.{length}
use Rattle.reports.specs.Rows.{BYTES_OF_NUMBER, with_numbers}
use Rattle.std.specs.Prelude.{Err}
use Rattle.std.specs.Result.{IsErrAnd}
use Rattle.std.specs.declared.result.Result.{Result}
use Rattle.std.proofs.lemmas.Result.{err_from_is_err_and}
use Rattle.limits.specs.declared.index.OutOfRange.{OutOfRange as NotInRange}
use Rattle.limits.specs.declared.refusal.Refusal.{Refusal}
use Rattle.limits.specs.declared.refusal.Refusal.TheVariants.{OutOfRange}
use Rattle.reports.specs.Reports.{answered, report_number, Answers, Gathered}

-- a value out of its range stops the gathering
pub not-gathered : {in_range : Bool} (numbers after : List ℕ) (e : NotInRange) → in_range ≡ false
    → Gathered {A = Unit {0}} in_range numbers after (Err e)
not-gathered numbers after e f = record { numbers_are = tt; in_range_is = tt; out_of_range = f }

module _ (ns row : List ℕ) where
  -- the row is too short
  pub answers-23 : length row < BYTES_OF_NUMBER * length ns → Answers (answered true ns row) row 23
  unfolding answered
  answers-23 l = rw (lt-leb (BYTES_OF_NUMBER * length ns) (length row) l) (record { number = refl; row_is = refl })

  -- the numbers are written
  pub answers-20 : BYTES_OF_NUMBER * length ns ≤ length row → {row' : List ℕ} → row' ≡ with_numbers 0 ns row
      → Answers (answered true ns row) row' 20
  unfolding answered
  answers-20 l e = rw (le-leb (BYTES_OF_NUMBER * length ns) (length row) l) (record { number = refl; row_is = e })

module _ (in_range : Bool) (numbers row : List ℕ) where
  -- a value is out of its range
  pub answers-14 : in_range ≡ false → Answers (answered in_range numbers row) row 14
  unfolding answered
  answers-14 e = rw e (record { number = refl; row_is = refl })

  -- so the error of the gathering is the answer
  pub refused : {A : Type 0} (r : Result A Refusal) → IsErrAnd r (λ e. e ≡ OutOfRange) → in_range ≡ false
      → Answers (answered in_range numbers row) row (report_number r)
  refused r e f = let p = err_from_is_err_and r e in rw (p.1, p.2) (answers-14 f)

  -- what was gathered is handed to the row
  pub answers-on : in_range ≡ true → {ns row' : List ℕ} {r : ℕ} → ns ≡ numbers → Answers (answered true ns row) row' r
      → Answers (answered in_range numbers row) row' r
  answers-on t e A = rw (t, ← e) A

-- ---- what is known of a report's definition is known of what its function answered and left

-- the number, and whatever the row tells
pub answers-tell : {x : ℕ × List ℕ} {row : List ℕ} {r n : ℕ} (P : List ℕ → Type 0) → Answers x row r
    → (x.0 ≡ n) × P x.1 → (r ≡ n) × P row
answers-tell P A t = (A.number ∙ t.0, subst P (sym A.row_is) t.1)

-- the number, and every byte of the row
pub answers-are : {x : ℕ × List ℕ} {row : List ℕ} {r n : ℕ} {q : List ℕ} → Answers x row r → x ≡ (n, q)
    → (r ≡ n) × (row ≡ q)
answers-are A e = (A.number ∙ ap (λ (x : ℕ × List ℕ). x.0) e, A.row_is ∙ ap (λ (x : ℕ × List ℕ). x.1) e)
