-- The totals of a run, record by record.
use Rattle.std.specs.Prelude.{◌+◌, ◌^◌, ◌<◌}
use Rattle.worklist.specs.declared.ended.Ended.{Ended}
use Rattle.worklist.specs.declared.step.Step.{Step}

-- the totals can be told with one record more
pub record Countable (t : Ended) (k : Step) : Type 0 where
  pub records : t.records + 1 < 2 ^ 64
  pub written : t.written + k.written < 2 ^ 64
  pub erases : t.erases + k.erases < 2 ^ 64
  pub large : t.large_groups + k.large < 2 ^ 64
  pub small : t.small_pages + k.small < 2 ^ 64

-- one record more
abbrev pub with_step : Ended → Step → Ended
with_step t k =
    record {
      fault = t.fault;
      place = t.place;
      records = t.records + 1;
      written = t.written + k.written;
      erases = t.erases + k.erases;
      large_groups = t.large_groups + k.large;
      small_pages = t.small_pages + k.small;
    }
