-- One turn of a run.
use Rattle.std.proofs.Common.{◌≡◌, ℕ, zero, suc, ◌+◌, ◌<◌, ◌≤◌, ◌≢◌, cond, eqb, sym, refl, ap, ◌∙◌, arith, eq-eqb, ne_eqb}
use Rattle.stepped.specs.Outcome.{Memories}
use Rattle.plain.specs.Calls.{step}
use Rattle.schedule.specs.Stand.{as_started, runs}
use Rattle.schedule.specs.Bytes.{on_bytes, Makes}

-- what a run of `most` steps that began on s₀ leaves is what its steps behind the first `done` leave of s
pub record RunAhead (t most : ℕ) (s₀ : Memories) (done : ℕ) (s : Memories) : Type 0 where
  pub left : ℕ
  pub counted : done + left ≡ most
  pub is : runs on_bytes 0 t most s₀ ≡ runs on_bytes 0 t left s

pub begins : (t most : ℕ) (s : Memories) → RunAhead t most s 0 s
begins t most s = record { left = most; counted = omega arith; is = refl }

module _ {t most : ℕ} {s₀ : Memories} {done : ℕ} {s : Memories} (A : RunAhead t most s₀ done s) where
  -- all steps are done
  pub ends : most ≤ done → Makes (runs on_bytes 0 t most) s₀ s 0
  unfolding runs
  ends h =
      let p : runs on_bytes 0 t most s₀ ≡ (s, 0) =
      A.is ∙ ap (λ (n : ℕ). runs on_bytes 0 t n s) (let z : A.left ≡ 0 = omega (arith, A.counted) in z) in
      record {
        memories_are = sym (ap (λ (x : Memories × ℕ). x.0) p);
        answer = sym (ap (λ (x : Memories × ℕ). x.1) p);
      }

  module _ {s' : Memories} {r : ℕ} (h : done < most) (D : Makes (on_bytes (step t) as_started) s s' r) where
    -- what is left to run, by the answer of the step
    turn : (n : ℕ) × (done + 1 + n ≡ most) × (runs on_bytes 0 t most s₀ ≡ cond (eqb r 0) (runs on_bytes 0 t n s') (s', r))
    unfolding runs
    turn = by A.left A.counted A.is
      where
        by : (left : ℕ) → done + left ≡ most → runs on_bytes 0 t most s₀ ≡ runs on_bytes 0 t left s
            → (n : ℕ) × (done + 1 + n ≡ most) × (runs on_bytes 0 t most s₀ ≡ cond (eqb r 0) (runs on_bytes 0 t n s') (s', r))
        by zero q p = absurd (omega arith)
        by (suc n) q p =
            let made : on_bytes (step t) as_started s ≡ (s', r) = sym (λ i. (D.memories_are i, D.answer i)) in (
              n,
              omega arith,
              p ∙ ap (λ (x : Memories × ℕ). cond (eqb x.1 0) (runs on_bytes 0 t n x.0) x) made,
            )

    -- the step is under way: the run goes on
    pub goes_on : r ≡ 0 → RunAhead t most s₀ (done + 1) s'
    goes_on e =
        record {
          left = turn.0;
          counted = turn.1;
          is = turn.2 ∙ ap (λ b. cond b (runs on_bytes 0 t turn.0 s') (s', r)) (eq-eqb r 0 e);
        }

    -- the step ended it
    pub stops : r ≢ 0 → Makes (runs on_bytes 0 t most) s₀ s' r
    stops n =
        let p : runs on_bytes 0 t most s₀ ≡ (s', r) =
        turn.2 ∙ ap (λ b. cond b (runs on_bytes 0 t turn.0 s') (s', r)) (ne_eqb r 0 n) in
        record {
          memories_are = sym (ap (λ (x : Memories × ℕ). x.0) p);
          answer = sym (ap (λ (x : Memories × ℕ). x.1) p);
        }
