-- A report on memories: where it is given, where its row is too short, and what stands in the row.
use mathlib.Core.Path.{◌≡◌, refl, sym, ap, ◌∙◌}
use mathlib.Core.Bool.{Bool, true, false, cond, ◌&&◌}
use mathlib.Core.List.{List}
use Prim.Native.Nat.{ℕ, ◌+◌, ◌*◌, ◌%◌, ◌≤◌, ◌<◌}
use native.Mathlib.Omega.{arith}
use lib.Dec.{leb, eqb}
use lib.ListN.{length, get_or}
use borrow.Author.Tests.{le-leb, lt-leb, leb-true, eqb-true}
use Rattle.limits.specs.Limits.{CONTROL_BYTES, TASKS, REGIONS}
use Rattle.fields.specs.Little.{get_le}
use Rattle.fields.specs.Columns.{View}
use Rattle.links.specs.Link.{link}
use Rattle.plain.specs.Calls.{Lengths}
use Rattle.control.specs.Layout.{Tasks, Regions, seen}
use Rattle.stepped.specs.Outcome.{Memories}
use Rattle.stepped.specs.Ranges.{one_to}
use Rattle.stepped.specs.Calls.{is_started_lengths, lengths, lending}
use Rattle.reports.specs.Rows.{BYTES_OF_NUMBER, with_numbers, numbers_to}
use Rattle.reports.specs.Reports.{report_refusal, answered, report_of, report_on}
use Rattle.reports.proofs.Rows.{numbers-length, number_is, number-written, low_byte}

-- ---- the tests 1, 4, 2

-- none of them refuses with 20
refusal-not-20 : (lent : Lengths) (v : View) → report_refusal lent v ≡ 20 → ⊥
unfolding report_refusal
refusal-not-20 lent v =
    by (eqb lent.control CONTROL_BYTES) (leb (v Tasks) TASKS) (eqb (v Tasks) 0) (one_to REGIONS (v Regions))
    (is_started_lengths lent (v Regions))
  where
    by : (a b c d e : Bool) → ◌≡◌ {A = ℕ} (cond a (cond b (cond c 4 (cond d (cond e 0 2) 14)) 14) 1) 20 → ⊥
    by false b c d e h = omega arith
    by true false c d e h = omega arith
    by true true true d e h = omega arith
    by true true false false e h = omega arith
    by true true false true false h = omega arith
    by true true false true true h = omega arith

-- where they pass, one of them told that the number of regions is in its range
pub passed-regions : (lent : Lengths) (v : View) → report_refusal lent v ≡ 0 → v Regions ≤ REGIONS
unfolding report_refusal
passed-regions lent v =
    by (eqb lent.control CONTROL_BYTES) (leb (v Tasks) TASKS) (eqb (v Tasks) 0) (leb 1 (v Regions))
    (leb (v Regions) REGIONS) (is_started_lengths lent (v Regions)) (leb-true (v Regions) REGIONS)
  where
    by : (a b c d f e : Bool) → (f ≡ true → v Regions ≤ REGIONS)
        → ◌≡◌ {A = ℕ} (cond a (cond b (cond c 4 (cond (d && f) (cond e 0 2) 14)) 14) 1) 0 → v Regions ≤ REGIONS
    by false b c d f e t h = absurd (omega arith)
    by true false c d f e t h = absurd (omega arith)
    by true true true d f e t h = absurd (omega arith)
    by true true false false f e t h = absurd (omega arith)
    by true true false true false e t h = absurd (omega arith)
    by true true false true true e t h = t refl

-- ---- a report of n numbers

-- the tests pass, and all that is read is in its range
pub record Passes (in_range : View → (ℕ → ℕ) → ℕ → Bool) (s : Memories) : Type 0 where
  pub tests : report_refusal (lengths (lending s)) (seen s.control) ≡ 0
  pub range : in_range (seen s.control) (link s.area) (seen s.control Regions) ≡ true

module _ (in_range : View → (ℕ → ℕ) → ℕ → Bool) (n : ℕ) (number : View → (ℕ → ℕ) → ℕ → ℕ → ℕ) (s : Memories) where
  -- its numbers
  abbrev pub numbers_on : ℕ → ℕ
  numbers_on = number (seen s.control) (link s.area) (seen s.control Regions)

  module _ (row : List ℕ) where
    -- what the length of the row is compared with
    long : BYTES_OF_NUMBER * length (numbers_to n numbers_on) ≡ BYTES_OF_NUMBER * n
    long = ap (λ (k : ℕ). BYTES_OF_NUMBER * k) (numbers-length n numbers_on)

    -- a report is given only where its tests pass and the row is long enough
    pub given-only : (report_on in_range n number s row).0 ≡ 20 → Passes in_range s × (BYTES_OF_NUMBER * n ≤ length row)
    unfolding report_on report_of answered
    given-only =
        let refusal = report_refusal (lengths (lending s)) (seen s.control) in
        let all = in_range (seen s.control) (link s.area) (seen s.control Regions) in
        let ns = numbers_to n numbers_on in
        by (eqb refusal 0) all (leb (BYTES_OF_NUMBER * length ns) (length row)) (eqb-true refusal 0) refl
        (leb-true (BYTES_OF_NUMBER * length ns) (length row))
      where
        by : (a b c : Bool) → (a ≡ true → report_refusal (lengths (lending s)) (seen s.control) ≡ 0)
            → b ≡ in_range (seen s.control) (link s.area) (seen s.control Regions)
            → (c ≡ true → BYTES_OF_NUMBER * length (numbers_to n numbers_on) ≤ length row)
            → (cond {A = ℕ × List ℕ} a
            (cond b (cond c (20, with_numbers 0 (numbers_to n numbers_on) row) (23, row)) (14, row))
            (report_refusal (lengths (lending s)) (seen s.control), row)).0 ≡ 20
            → Passes in_range s × (BYTES_OF_NUMBER * n ≤ length row)
        by false b c f g h e = absurd (refusal-not-20 (lengths (lending s)) (seen s.control) e)
        by true false c f g h e = absurd (omega arith)
        by true true false f g h e = absurd (omega arith)
        by true true true f g h e =
            (record { tests = f refl; range = sym g }, omega (arith, h refl, long))

    module _ (P : Passes in_range s) where
      -- a row that is too short is left as it is
      pub left-short : length row < BYTES_OF_NUMBER * n → report_on in_range n number s row ≡ (23, row)
      unfolding report_on report_of answered
      left-short l =
          rw (
            P.tests,
            P.range,
            lt-leb (BYTES_OF_NUMBER * length (numbers_to n numbers_on)) (length row)
                (omega (arith, long)),
          )

      module _ (fits : BYTES_OF_NUMBER * n ≤ length row) where
        -- a row that is long enough is filled
        pub given : report_on in_range n number s row ≡ (20, with_numbers 0 (numbers_to n numbers_on) row)
        unfolding report_on report_of answered
        given =
            rw (
              P.tests,
              P.range,
              le-leb (BYTES_OF_NUMBER * length (numbers_to n numbers_on)) (length row)
                  (omega (arith, long)),
            )

        -- each number stands at its place in it
        pub number-stands : (i : ℕ) → i < n → numbers_on i < 65536
            → get_le (report_on in_range n number s row).1 (BYTES_OF_NUMBER * i) BYTES_OF_NUMBER ≡ numbers_on i
        number-stands i below small =
            let ns = numbers_to n numbers_on in
            let is = number_is n numbers_on i below in
            let count = numbers-length n numbers_on in
            let from : BYTES_OF_NUMBER * i ≡ 0 + BYTES_OF_NUMBER * i = omega arith in
            ap (λ (x : ℕ × List ℕ). get_le x.1 (BYTES_OF_NUMBER * i) BYTES_OF_NUMBER) given
            ∙ ap (λ (at : ℕ). get_le (with_numbers 0 ns row) at BYTES_OF_NUMBER) from
            ∙ number-written 0 ns row i (omega (arith, long)) (omega (arith, count)) (omega (arith, is)) ∙ is

        -- and the low byte of each is the first there
        pub low_stands : (i : ℕ) → i < n
            → get_or (report_on in_range n number s row).1 (BYTES_OF_NUMBER * i) 0 ≡ numbers_on i % 256
        low_stands i below =
            let ns = numbers_to n numbers_on in
            let count = numbers-length n numbers_on in
            let from : BYTES_OF_NUMBER * i ≡ 0 + BYTES_OF_NUMBER * i = omega arith in
            ap (λ (x : ℕ × List ℕ). get_or x.1 (BYTES_OF_NUMBER * i) 0) given
            ∙ ap (λ (at : ℕ). get_or (with_numbers 0 ns row) at 0) from
            ∙ low_byte 0 ns row i (omega (arith, long)) (omega (arith, count))
            ∙ ap (λ (x : ℕ). x % 256) (number_is n numbers_on i below)

-- ---- two reports that read the same

-- lent rows that are long enough, they answer alike, whatever the memories hold
pub same-answers : (in_range : View → (ℕ → ℕ) → ℕ → Bool) (n k : ℕ) (f g : View → (ℕ → ℕ) → ℕ → ℕ → ℕ) (s : Memories)
    (row form : List ℕ) → BYTES_OF_NUMBER * n ≤ length row → BYTES_OF_NUMBER * k ≤ length form
    → (report_on in_range n f s row).0 ≡ (report_on in_range k g s form).0
unfolding report_on report_of answered
same-answers in_range n k f g s row form l h =
    let v = seen s.control in
    let links = link s.area in
    let xs = numbers_to n (f v links (v Regions)) in
    let ys = numbers_to k (g v links (v Regions)) in
    rw (
      le-leb (BYTES_OF_NUMBER * length xs) (length row) (omega (arith, numbers-length n (f v links (v Regions)))),
      le-leb (BYTES_OF_NUMBER * length ys) (length form) (omega (arith, numbers-length k (g v links (v Regions)))),
    )
    (by (eqb (report_refusal (lengths (lending s)) v) 0) (in_range v links (v Regions))
    (report_refusal (lengths (lending s)) v) (with_numbers 0 xs row) (with_numbers 0 ys form))
  where
    by : (a b : Bool) (r : ℕ) (xs ys : List ℕ)
        → (cond {A = ℕ × List ℕ} a (cond b (20, xs) (14, row)) (r, row)).0
        ≡ (cond {A = ℕ × List ℕ} a (cond b (20, ys) (14, form)) (r, form)).0
    by true true r xs ys = refl
    by true false r xs ys = refl
    by false b r xs ys = refl
