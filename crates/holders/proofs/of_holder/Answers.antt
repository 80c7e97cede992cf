-- One law for each kind of holder.
use mathlib.Core.Path.{◌≡◌, ◌∙◌}
use native.Mathlib.Omega.{arith}
use lib.ListN.{get_or}
use Rattle.std.proofs.Common.{rules}
use Rattle.control.specs.Layout.{seen}
use Rattle.report_regions.proofs.OpenBounds.{chain-most}
use Rattle.holders.proofs.FormColumns.{as_read, chain-is, chains_read, number_read, marks-number}
use Rattle.holders.proofs.FormColumns.{cache-number, request-number, chains-number}
use Rattle.holders.proofs.of_holder.Goals as goal

pub returns-then-holder-lt-FIRST_CACHE : goal.returns-then-holder-lt-FIRST_CACHE
returns-then-holder-lt-FIRST_CACHE c =
    marks-number _ _ _ c.args.class _ c.requires.1 (omega arith) (c.in_hands.ensures ∙ as_read c.requires.2 _ _)

pub returns-then-holder-lt-FIRST_REQUEST : goal.returns-then-holder-lt-FIRST_REQUEST
returns-then-holder-lt-FIRST_REQUEST c =
    cache-number _ _ _ c.args.class _ c.requires.1 (omega arith) (omega arith)
    (number_read c.requires.2 _ _ (rw c.new.ensures at c.in_cache.ensures))

pub returns-then-holder-lt-CHAINS : goal.returns-then-holder-lt-CHAINS
returns-then-holder-lt-CHAINS c =
    request-number _ _ _ c.args.class _ c.requires.1 (omega arith) (omega arith)
    (number_read c.requires.2 _ _ (rw c.new-then-holder-lt-CHAINS.ensures at c.in_request.ensures))

pub add_up-requires-clause-small : goal.add_up-requires-clause-small
add_up-requires-clause-small c = λ r x l p.
    let e : x ≡ get_or c.args.opened.now.chains r 0 = search rules in
    let v = seen c.args.control.now in
    omega (arith, e, chain-is c.requires.2 r l, chain-most v c.args.regions r)

pub returns : goal.returns
returns c =
    chains-number _ _ _ c.args.class _ c.requires.1 (omega arith)
    (c.add_up.ensures (λ r. get_or c.args.opened.now.chains r 0) (λ r x l p. search rules)
    ∙ chains_read c.requires.2 _)
