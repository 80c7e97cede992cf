-- One more read: what it put behind the filled part is what it took from the input.
use Rattle.std.proofs.Common.{rules, ℕ, ◌+◌, ◌≤◌, ◌≡◌, ◌∙◌, List, ◌++◌, length, take, sym, ap, subst, length-take-le}
use Rattle.std.specs.Io.KnownBytes.{Consumes}
use Rattle.std.proofs.KnownBytes.{Consumes-trans}
use borrow.Rule.Slice.PartMut.{put_mid, post_of}
use lib.Seq.{take-append-add, take-append-le}
use Rattle.input.proofs.read_full.Goals as goal

-- the first bytes of a list with a part put back at `at`
more : (at k n : ℕ) (xs ys : List ℕ) → at ≤ length xs → n ≤ length ys
    → take (at + n) (put_mid at k xs ys) ≡ take at xs ++ take n ys
more at k n xs ys within fits =
    let post = post_of at k xs in
    ap (λ m. take (m + n) (take at xs ++ (ys ++ post))) (sym (length-take-le at xs within))
    ∙ take-append-add (take at xs) (ys ++ post) n
    ∙ ap (λ l. take at xs ++ l) (take-append-le n ys post fits)

pub loop-filled-preserved : goal.loop-filled-preserved
loop-filled-preserved g c =
    let before = c.loop-filled.invariant in
    let read = c.in_ok-n.ensures in (
      search rules,
      search rules,
      subst
          (Consumes _ _)
          (sym (more _ _ _ _ _ before.1 read.bound.0))
          (Consumes-trans _ _ _ _ _ before.2 read.bytes.0),
    )
