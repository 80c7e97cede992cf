-- docs/POOL.md, "The stand"
-- The tally. "The last line counts codes 20, codes 0 and the others."
use Rattle.std.specs.Prelude.{ℕ, ◌+◌, ◌%◌, ◌^◌, cond, ◌==◌}
use Rattle.schedule.specs.declared.tally.Tally.{Tally}

-- one more than n, in 64 bits
abbrev pub more : ℕ → ℕ
more n = (n + 1) % 2 ^ 64

-- the tally before the first record
abbrev pub none_counted : Tally
none_counted = record { finished = 0; accepted = 0; others = 0 }

-- the tally with one more record of this code
unfoldable pub counted : Tally → ℕ → Tally
counted y code =
    cond (code == 20) (record { finished = more y.finished; accepted = y.accepted; others = y.others })
    (cond (code == 0) (record { finished = y.finished; accepted = more y.accepted; others = y.others })
    (record { finished = y.finished; accepted = y.accepted; others = more y.others }))
