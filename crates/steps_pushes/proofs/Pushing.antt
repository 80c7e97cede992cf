-- Where a won push of a return leads.
use Prim.Native.Nat.{ℕ, ◌+◌, ◌≤◌, ◌<◌}
use mathlib.Core.Path.{◌≡◌, refl}
use mathlib.Core.List.{List, [], ◌∷◌}
use borrow.Author.Tests.{lt-ltb, le-leb, eq-eqb}
use Rattle.std.specs.Result.{IsErrAnd}
use Rattle.std.specs.declared.result.Result.{Result}
use Rattle.std.proofs.lemmas.Result.{err_from_is_err_and}
use Rattle.limits.specs.declared.index.OutOfRange.{OutOfRange as NotInRange}
use Rattle.limits.specs.declared.refusal.Refusal.{Refusal}
use Rattle.limits.specs.declared.refusal.Refusal.TheVariants.{OutOfRange}
use Rattle.fields.specs.Columns.{View, Write, ◌:=◌}
use Rattle.words.specs.Anchor.{FULL}
use Rattle.words.specs.Head.{item_of, advanced_word}
use Rattle.plain.specs.Moves.{Decided, pushed}
use Rattle.control.specs.Layout.{Head, TaskHead, TaskState}
use Rattle.control.specs.declared.answer.Answer.{Answer}
use Rattle.control.specs.declared.moves.Push.{Push}
use Rattle.control.specs.declared.moves.Push.TheVariants.{Release, Offer}
use Rattle.stepped.specs.Outcome.{bad}
use Rattle.stepped.specs.Lists.{how_many, hand_field, push_list, push_items, when_pushed, push_exchange}
use Rattle.stepped.specs.Done.{Done}
use Rattle.stepped.proofs.Doing.{done, does}
use Rattle.steps_lists.specs.declared.follow.Follow.{Follow}
use Rattle.steps_lists.specs.Following.{f6_follow, f5_follow, followed}
use Rattle.steps_lists.proofs.Following.{f5-at, f6-at}

-- the exit of a `?` behind which nothing was written
pub refused : {before : List ℕ} {r : Result Answer Refusal} → IsErrAnd r (λ e. e ≡ OutOfRange)
    → Done bad before before r
refused {r = r} h = let p = err_from_is_err_and r h in done {o' = bad} refl (rw (p.1, p.2) refl) refl refl

-- r is where the code goes on
module _ (v : View) (regions t c : ℕ) (e : Decided) (ws : List Write) (r : Result Follow NotInRange) where
  -- s is the state that the code reads
  pub released : {s : ℕ} {before after : List ℕ} {a : Result Answer Refusal} → Done (followed v r t c e ws) before after a
      → s ≤ FULL → s ≡ v (TaskState t) → r ≡ f5_follow v t c s
      → Done (when_pushed v regions t c Release e ws) before after a
  released d h m k = rw (← m, le-leb _ _ h) (does (f5-at v regions t c e ws _ r k) d)

  pub offered : {before after : List ℕ} {a : Result Answer Refusal} → Done (followed v r t c e ws) before after a
      → r ≡ f6_follow v t c → Done (when_pushed v regions t c Offer e ws) before after a
  offered d k = does (f6-at v regions t c e ws r k) d

-- a won exchange leads where its reason says: ℓ and `word` are where the code writes and what
module _ (v : View) (regions t c : ℕ) (p : Push) (ℓ word : ℕ) where
  pub leads : {before after : List ℕ} {r : Result Answer Refusal}
      → Done (when_pushed v regions t c p (pushed (push_list p c) (v (hand_field (push_items p) t)))
      (Head ℓ := word ∷ [])) before after r
      → v (hand_field (push_items p) t) < how_many (push_items p) regions
      → item_of (v (TaskHead t)) ≤ how_many (push_items p) regions
      → item_of (v (Head (push_list p c))) ≤ how_many (push_items p) regions
      → v (Head (push_list p c)) ≡ v (TaskHead t) → ℓ ≡ push_list p c
      → word ≡ advanced_word (v (TaskHead t)) (v (hand_field (push_items p) t) + 1)
      → Done (push_exchange v regions t c p) before after r
  unfolding push_exchange
  leads d h k m e f g = does (rw (lt-ltb _ _ h, le-leb _ _ k, le-leb _ _ m, eq-eqb _ _ e, ← f, ← g) refl) d
