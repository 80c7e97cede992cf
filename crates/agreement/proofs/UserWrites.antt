-- A user's write, and a link that a step writes: which bytes they leave.
use mathlib.Core.Path.{◌≡◌, refl, ap, subst, ◌∙◌}
use mathlib.Core.Logic.{◌≢◌}
use mathlib.Core.List.{List, [], ◌∷◌}
use Prim.Native.Nat.{ℕ, suc, pred, ◌+◌, ◌*◌, ◌≤◌, ◌<◌}
use native.Mathlib.Omega.{arith}
use native.Mathlib.Decide.{ℕ_discrete, dec_lt}
use lib.ListN.{get_or, set, length-set}
use Rattle.limits.specs.Limits.{UNIT_BYTES, TASKS, DESCRIPTORS}
use Rattle.rows.specs.Counting.{count}
use Rattle.rows.specs.Totals.{total}
use Rattle.rows.proofs.Totals.{total-one}
use Rattle.fields.specs.Columns.{View}
use Rattle.links.specs.Link.{link, with_link, LinkWrite, ◌⇒◌, with_links, LINK_BYTES}
use Rattle.links.proofs.Links.{link-byte, byte-other}
use Rattle.classes.specs.Classes.{block}
use Rattle.classes.specs.Geometry.{region_of, BlockOf}
use Rattle.classes.proofs.BlockUnits.{inside, apart, region-is}
use Rattle.classes.proofs.Tables.{units-low}
use Rattle.plain.specs.State.{Mem}
use Rattle.plain.specs.HolderWeights.{inside_weight, chain_weight, block_weight}
use Rattle.plain.specs.Invariant.{Invariant}
use Rattle.plain.proofs.ByState.{open-holds}
use Rattle.plain.proofs.Homes.{inside-open}
use Rattle.agreement.specs.Contents.{contents_of}
use Rattle.agreement.specs.Relation.{Related}
use Rattle.agreement.proofs.Frames.{kept_slot, lists-kept}
use Rattle.agreement.proofs.RelatedParts.{links-related, core-links}
use Rattle.agreement.proofs.TurnInBoth.{Valid, valid, same_class}
use Rattle.agreement.proofs.Both.{Apart}

-- two different blocks of open regions: a byte of one is none of the other's link
away : {r c u r' c' v : ℕ} → BlockOf r c u → BlockOf r' c' v → (r ≡ r' → c ≡ c') → v ≢ u
    → (at : ℕ) → UNIT_BYTES * u ≤ at → at < UNIT_BYTES * u + block c
    → UNIT_BYTES * v ≤ at → UNIT_BYTES * v + LINK_BYTES ≤ at
away {r} {c} {u} {r'} {c'} {v} b d same n at p q l = elim (ℕ_discrete r r') [
  | yes e ↦ (let f : BlockOf r c v = rw (same e, e) d in elim (dec_lt u v) [
    | yes k ↦ absurd (omega (arith, apart b f k))
    | no k ↦ (let h : v < u = omega arith in omega (arith, apart f b h, units-low c))
  ])
  | no e ↦ elim (dec_lt r r') [
    | yes k ↦ absurd (omega (arith, inside b, inside d))
    | no k ↦ omega (arith, inside b, inside d, units-low c')
  ]
]

module _ {regions : ℕ} {m : Mem} (I : Invariant regions m) (u at : ℕ) (held : 1 ≤ m.hands u)
    (from : UNIT_BYTES * u ≤ at)
    (to : at < UNIT_BYTES * u + block (m.descriptor (pred (m.map (region_of u)))).class) where
  here : Valid m u
  here = valid m u (omega (arith, I.blocks u))

  -- the class is that of the block's region
  class-here : at < UNIT_BYTES * u + block (m.descriptor here.d).class
  class-here =
      let named : m.map (region_of u) ≡ suc here.d =
      ap m.map (region-is here.block) ∙ open-holds (m.descriptor here.d).state here.counts
      (I.maps here.d here.fits) in
      let i : pred (m.map (region_of u)) ≡ here.d = omega (arith, named) in
      subst (λ (z : ℕ). at < UNIT_BYTES * u + block (m.descriptor z).class) i to

  -- the link of another block of an open region does not lie there
  pub far : (v : ℕ) → 1 ≤ total DESCRIPTORS (inside_weight v) m.descriptor → v ≢ u → UNIT_BYTES * v ≤ at
      → UNIT_BYTES * v + LINK_BYTES ≤ at
  far v h n = let y = valid m v h in away here.block y.block (same_class I here y) n at from class-here

  -- a block that a task or a chain has is not the one in hands
  other : (v : ℕ) → 1 ≤ total TASKS (block_weight v) m.task + total DESCRIPTORS (chain_weight v) m.descriptor
      → v ≢ u
  other v h e =
      absurd (omega (
        arith,
        I.blocks u,
        inside-open I u,
        ap
            (λ (z : ℕ). total TASKS (block_weight z) m.task + total DESCRIPTORS (chain_weight z) m.descriptor) e,
      ))

  -- ---- the user's write

  link-kept : (area : List ℕ) (b v : ℕ) → 1 ≤ total TASKS (block_weight v) m.task + total DESCRIPTORS (chain_weight v)
      m.descriptor
      → link (set area at b) v ≡ link area v
  link-kept area b v h = link-byte area at b v (far v (omega (arith, I.blocks v)) (other v h))

  -- a write to a block in hands leaves the relation
  pub write-related : (v : View) (area : List ℕ) (b : ℕ) → Related regions (contents_of v area) m
      → Related regions (contents_of v (set area at b)) m
  write-related v area b R =
      let C = R.core in
      record {
        core =
            core-links C
            (links-related C.descriptors (link (set area at b)) (λ d l g x h. link-kept area b x (omega (
              arith,
              total-one DESCRIPTORS (chain_weight x) m.descriptor d l,
              g (count x (m.descriptor d).chain),
            ))))
            (length-set area at b);
        slots = λ t l. kept_slot {a = contents_of v area} {m = m} (record {
          lists = lists-kept;
          links = λ x h. link-kept area b x (omega (arith, total-one TASKS (block_weight x) m.task t l));
          regions = λ x h. refl;
        }) (R.slots t l);
      }

  -- ---- the pool's link writes leave the byte

  pub byte-kept : (ls : List LinkWrite) (area : List ℕ) → Apart m ls
      → get_or (with_links ls area) at 0 ≡ get_or area at 0
  byte-kept [] area h = refl
  byte-kept ((x ⇒ y) ∷ ls) area h =
      byte-kept ls (with_link area x y) h.1
      ∙ byte-other area x y at (λ l. elim (dec_lt at (UNIT_BYTES * x)) [
        | yes k ↦ k
        | no k ↦ (let n : x ≢ u = λ e. absurd (omega (arith, h, ap m.hands e)) in
            absurd (omega (arith, far x h.0.1 n (omega arith))))
      ])
