-- Words of the examples.
use Rattle.std.specs.Prelude.{ℕ, [], None}
use Rattle.relayout_cli.specs.Runs.{Run}

-- a run before which the source had failed 3 times and the sink 5 times, by how often they had after it
abbrev pub run_after_faults : ℕ → ℕ → Run
run_after_faults source sink = record {
  before = record {
    source = record { left = None; taken = 0; faults = 3 };
    sink = record { held = None; faults = 5 };
    ledger = [];
  };
  after = record {
    source = record { left = None; taken = 9; faults = source };
    sink = record { held = None; faults = sink };
    ledger = [];
  };
}
