-- The image of a start, column by column.
use mathlib.Core.Path.{◌≡◌, refl, sym, ap, ◌∙◌}
use mathlib.Core.List.{List, [], ◌∷◌, ◌++◌}
use Prim.Native.Nat.{ℕ, suc, ◌-◌, ◌≤◌, ◌<◌}
use native.Mathlib.Omega.{arith}
use lib.ListN.{length, drop, replicate, drop_of_length-le}
use Rattle.limits.specs.Limits.{CONTROL_BYTES, UNITS, DESCRIPTORS, SPARE_DESCRIPTORS, SPARE_REGIONS}
use Rattle.fields.specs.Columns.{Field, Write, ◌:=◌}
use Rattle.fields.proofs.Layouts.{length-written}
use Rattle.strip_tree.specs.Trees.{WHOLE_FREE}
use Rattle.control.specs.Layout.{CACHES, layout, changed, Head, Tasks, Regions, DescriptorNext, RegionNext, TopOfCache}
use Rattle.control.specs.Layout.{FreeNodes}
use Rattle.stepped.specs.Start.{fill, next_up, start_writes, start_image}
use Rattle.start.specs.Filled.{filled}

append-none : (l : List ℕ) → l ++ [] ≡ l
append-none [] = refl
append-none (x ∷ l) = ap (λ (y : List ℕ). x ∷ y) (append-none l)

-- a list that is filled up to its length
pub filled-all : (n v : ℕ) (d : List ℕ) → length d ≤ n → replicate n v ++ drop n d ≡ replicate n v
filled-all n v d l = ap (λ (x : List ℕ). replicate n v ++ x) (drop_of_length-le d l) ∙ append-none (replicate n v)

-- two lists of writes, one after the other
pub changed-append : (ws us : List Write) (b : List ℕ) → changed (ws ++ us) b ≡ changed us (changed ws b)
changed-append [] us b = refl
changed-append (f := x ∷ ws) us b = changed-append ws us (changed (f := x ∷ []) b)

-- ---- a column that is filled from its last field down

-- the fields from i on have their values: what is left to write makes of `now` what the whole makes of `before`
pub record Filling (f : ℕ → Field) (x : ℕ → ℕ) (n : ℕ) (before : List ℕ) (i : ℕ) (now : List ℕ) : Type 0 where
  pub up_to : i ≤ n
  pub length : lib.ListN.length now ≡ CONTROL_BYTES
  pub rest : filled f x i now ≡ filled f x n before

one_less : (i : ℕ) → 0 < i → i ≡ suc (i - 1)
one_less i l = omega arith

module _ {f : ℕ → Field} {x : ℕ → ℕ} {n : ℕ} {before : List ℕ} where
  pub filling-begins : length before ≡ CONTROL_BYTES → Filling f x n before n before
  filling-begins h = record { up_to = omega arith; length = h; rest = refl }

  pub filling-goes : {i k y : ℕ} {now after : List ℕ} → Filling f x n before i now → 0 < i → k ≡ i - 1 → y ≡ x (i - 1)
      → after ≡ changed (f k := y ∷ []) now → Filling f x n before (i - 1) after
  unfolding filled
  filling-goes {i} {k} {y} {now} {after} F l j e g =
      let h = rw j at g in
      record {
        up_to = omega (arith, F.up_to);
        length = ap length h ∙ length-written layout (f (i - 1) := y ∷ []) now ∙ F.length;
        rest =
            ap (changed (fill f x (i - 1))) (h ∙ ap (λ (z : ℕ). changed (f (i - 1) := z ∷ []) now) e)
            ∙ ap (λ (k : ℕ). changed (fill f x k) now) (sym (one_less i l))
            ∙ F.rest;
      }

  pub filling-ends : {i : ℕ} {now : List ℕ} → Filling f x n before i now → i ≤ 0 → now ≡ filled f x n before
  unfolding filled
  filling-ends {i} {now} F l = ap (λ (k : ℕ). changed (fill f x k) now) z ∙ F.rest
    where
      z : 0 ≡ i
      z = omega arith

-- ---- the whole image

-- a field whose index is known gets a value that is known
pub with_value : (f : ℕ → Field) {k w : ℕ} (i x : ℕ) (b : List ℕ) {after : List ℕ} → k ≡ i → w ≡ x
    → after ≡ changed (f k := w ∷ []) b → after ≡ changed (f i := x ∷ []) b
with_value f {w = w} i x b e d h =
    h ∙ ap (λ (y : ℕ). changed (f y := w ∷ []) b) e ∙ ap (λ (y : ℕ). changed (f i := y ∷ []) b) d

-- so many fields are filled as the definition says
pub filled-to : (f : ℕ → Field) {k : ℕ} (n : ℕ) (b : List ℕ) {after : List ℕ} → k ≡ n
    → after ≡ filled f (next_up k) k b → after ≡ filled f (next_up n) n b
filled-to f n b e h = h ∙ ap (λ (k : ℕ). filled f (next_up k) k b) e

-- so many zeros
pub zeros : {n : ℕ} (m : ℕ) → n ≡ m → replicate {A = ℕ} n 0 ≡ replicate m 0
zeros m e = ap (λ (k : ℕ). replicate {A = ℕ} k 0) e

-- the writes of a start one after the other, beginning with zeros
pub image-is : (tasks regions : ℕ) {b₀ b₁ b₂ b₃ b₄ b₅ b₆ b₇ b₈ : List ℕ} → b₀ ≡ replicate CONTROL_BYTES 0
    → b₁ ≡ changed (Tasks := tasks ∷ []) b₀
    → b₂ ≡ changed (Regions := regions ∷ []) b₁
    → b₃ ≡ changed (Head SPARE_DESCRIPTORS := 1 ∷ []) b₂
    → b₄ ≡ changed (Head SPARE_REGIONS := 1 ∷ []) b₃
    → b₅ ≡ changed (FreeNodes 0 := WHOLE_FREE ∷ []) b₄
    → b₆ ≡ filled DescriptorNext (next_up DESCRIPTORS) DESCRIPTORS b₅
    → b₇ ≡ filled RegionNext (next_up regions) regions b₆
    → b₈ ≡ filled TopOfCache (λ i. UNITS) CACHES b₇ → b₈ ≡ start_image (record { tasks = tasks }) regions
unfolding start_image start_writes filled
image-is tasks regions h₀ h₁ h₂ h₃ h₄ h₅ h₆ h₇ h₈ =
    let ds = fill DescriptorNext (next_up DESCRIPTORS) DESCRIPTORS in
    let rs = fill RegionNext (next_up regions) regions in
    let ts = fill TopOfCache (λ i. UNITS) CACHES in
    let zeros : List ℕ = replicate CONTROL_BYTES 0 in
    let heads =
    Tasks := tasks
    ∷ Regions := regions
    ∷ Head SPARE_DESCRIPTORS := 1
    ∷ Head SPARE_REGIONS := 1
    ∷ FreeNodes 0 := WHOLE_FREE
    ∷ [] in
    h₈
    ∙ ap (changed ts) (h₇ ∙ ap (changed rs) (h₆ ∙ ap (changed ds)
    (h₅ ∙ ap (changed (FreeNodes 0 := WHOLE_FREE ∷ []))
    (h₄ ∙ ap (changed (Head SPARE_REGIONS := 1 ∷ [])) (h₃ ∙ ap (changed (Head SPARE_DESCRIPTORS := 1 ∷ []))
    (h₂ ∙ ap (changed (Regions := regions ∷ [])) (h₁
    ∙ ap (changed (Tasks := tasks ∷ [])) h₀)))))))
    ∙ sym (changed-append ds (rs ++ ts) (changed heads zeros) ∙ changed-append rs ts (changed ds (changed heads zeros)))
