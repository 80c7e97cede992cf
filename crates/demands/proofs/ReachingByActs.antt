-- What a run of the exported functions reaches.
use mathlib.Core.Path.{subst}
use mathlib.Core.List.{List, [], ◌∷◌}
use Rattle.plain.specs.Calls.{Pool}
use Rattle.stepped.specs.Outcome.{Memories}
use Rattle.agreement.specs.Events.{whole, Premise, Premises}
use Rattle.agreement.specs.Reached.{History, happened, Reached, by_event}
use Rattle.demands.specs.Acts.{Act, Happens, AllHappen, after_act, event_of_act, events_of_acts, AlongActs}
use Rattle.demands.specs.Acts.{WhereverActs}
use Rattle.demands.specs.LostTold.{AlongHistory}
use Rattle.demands.proofs.Acting.{shows}

-- an act leaves what its event reaches
pub by-act : {h : History} {s : Memories} {p : Pool} → Reached h s p → (a : Act) → Happens a s
    → Premise (event_of_act a s) p
    → Reached (happened (event_of_act a s) s p ∷ h) (after_act a s) (whole (event_of_act a s) p).0
by-act {h} {s} {p} R a H P =
    let e = event_of_act a s in
    subst (λ (z : Memories). Reached (happened e s p ∷ h) z (whole e p).0) (shows a s H).leaves (by_event R e P)

-- What holds of every act wherever a run has come holds along every list of acts behind it whose events meet the
-- premises.
pub along-acts : (P : Act → Memories → Pool → Type 0) → WhereverActs P → {h : History} {s : Memories} {p : Pool}
    → Reached h s p → (acts : List Act) → AllHappen acts s → Premises (events_of_acts acts s) p
    → AlongActs P acts s p
along-acts P f R [] run premises = tt
along-acts P f {h} {s} {p} R (a ∷ rest) run premises = (
  f h s p R a run.0 premises.0,
  along-acts P f {h = happened (event_of_act a s) s p ∷ h} (by-act R a run.0 premises.0) rest run.1 premises.1,
)

-- The same of what speaks of the history that ends with the act.
pub along-history : (P : Act → History → Type 0)
    → ((h : History) (s : Memories) (p : Pool) → Reached h s p → (a : Act) → Happens a s → Premise (event_of_act a s) p
    → P a (happened (event_of_act a s) s p ∷ h))
    → {h : History} {s : Memories} {p : Pool} → Reached h s p → (acts : List Act) → AllHappen acts s
    → Premises (events_of_acts acts s) p → AlongHistory P acts h s p
along-history P f R [] run premises = tt
along-history P f {h} {s} {p} R (a ∷ rest) run premises = (
  f h s p R a run.0 premises.0,
  along-history P f {h = happened (event_of_act a s) s p ∷ h} (by-act R a run.0 premises.0) rest run.1 premises.1,
)
