-- The laws of writing texts one behind the other.
use Prim.Native.Nat.{ℕ, ◌+◌, ◌-◌, ◌≤◌, ◌<◌}
use mathlib.Core.Path.{refl, sym, ap, ◌∙◌}
use mathlib.Core.List.{List, [], ◌∷◌, ◌++◌, append_assoc, append-nil}
use native.Mathlib.Omega.{arith}
use native.Mathlib.Numerals.{add-one}
use native.Mathlib.Nat.{add_assoc}
use lib.ListN.{length, take, get_or, set, length-append, length-set}
use lib.Seq.{take-suc, take-suc-set, take-append-add, take-append-le, length-take-le}
use borrow.Rule.Slice.PartMut.{mid_of, post_of, put_mid, same_len_mid, mid_len}
use Rattle.text.specs.Texts.{Appended}

-- nothing is written
pub none : (out : List ℕ) (at : ℕ) → at ≤ length out → Appended out out at [] at
none out at h = record { same_length = refl; end = omega arith; within = h; text_is = sym (append-nil (take at out)) }

module _ {before after : List ℕ} {at r : ℕ} {text : List ℕ} (w : Appended before after at text r) where
  -- one byte more is written
  pub one_more : (v : ℕ) → r < length after → Appended before (set after r v) at (text ++ v ∷ []) (r + 1)
  one_more v h = record {
    same_length = length-set after r v ∙ w.same_length;
    end = omega (arith, length-append text (v ∷ []), w.end);
    within = omega (arith, length-set after r v);
    text_is =
        rw (add-one)
        (take-suc-set after r v h ∙ ap (λ (l : List ℕ). l ++ v ∷ []) w.text_is
        ∙ append_assoc (take at before) text (v ∷ []));
  }

  -- another text is written behind the first
  pub both : {last : List ℕ} {q : ℕ} {more : List ℕ} → Appended after last r more q
      → Appended before last at (text ++ more) q
  both {last} {q} {more} x = record {
    same_length = x.same_length ∙ w.same_length;
    end = omega (arith, length-append text more, w.end, x.end);
    within = x.within;
    text_is = x.text_is ∙ ap (λ (l : List ℕ). l ++ more) w.text_is ∙ append_assoc (take at before) text more;
  }

-- one byte more of a text that is copied byte by byte
pub next : {before after : List ℕ} {at : ℕ} (text : List ℕ) (i : ℕ) → Appended before after at (take i text) (at + i)
    → i < length text → at + i < length after
    → Appended before (set after (at + i) (get_or text i 0)) at (take (i + 1) text) (at + (i + 1))
next {before} {after} {at} text i w h k =
    rw (add-one i, take-suc text i 0, ← add-one i, ← add_assoc at i 1) (one_more w (get_or text i 0) k)

-- a text at the start of the part that begins at `at`, put back
pub at_part : (out part text : List ℕ) (at r : ℕ) → at ≤ length out
    → Appended (mid_of at (length out - at) out) part 0 text r
    → Appended out (put_mid at (length out - at) out part) at text (at + r)
at_part out part text at r h w =
    let k = length out - at in
    let post = post_of at k out in
    let kept = same_len_mid at k out part w.same_length in
    record {
      same_length = kept;
      end = omega (arith, w.end);
      within = omega (arith, kept, w.within, w.same_length, mid_len at (length out) out (omega arith));
      text_is =
          ap (λ (n : ℕ). take (n + r) (take at out ++ (part ++ post))) (sym (length-take-le at out h))
          ∙ take-append-add (take at out) (part ++ post) r
          ∙ ap (λ (l : List ℕ). take at out ++ l) (take-append-le r part post w.within ∙ w.text_is);
    }
