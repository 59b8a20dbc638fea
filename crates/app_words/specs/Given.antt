-- What clap found, as plain data.
use Rattle.std.specs.Prelude.{Bool, false, List, Option, Some, None, codes, option_map}
use Rattle.std.specs.Str.{bytes_eq}
use Rattle.clap.specs.Words.{Row, Text, first_of}
use Rattle.app_words.specs.declared.given.Given.{Given as GivenWords}

pub record Given : Type 0 where
  pub app : Option Text
  pub script : Option Text
  pub size : Option Text
  pub check : Option Text
  pub workload : Option Text
  pub trace : Bool
  pub state : Bool
  pub layout : Bool
  pub prefs : Bool

-- a flag that was used has the value `true`
abbrev pub has_true : Option Text → Bool
has_true None = false
has_true (Some text) = bytes_eq text (codes "true")

abbrev pub given_by : List Row → Given
given_by rows = record {
  app = first_of (codes "app") rows;
  script = first_of (codes "script") rows;
  size = first_of (codes "size") rows;
  check = first_of (codes "check") rows;
  workload = first_of (codes "workload") rows;
  trace = has_true (first_of (codes "trace") rows);
  state = has_true (first_of (codes "state") rows);
  layout = has_true (first_of (codes "layout") rows);
  prefs = has_true (first_of (codes "prefs") rows);
}

abbrev pub given_value : GivenWords → Given
given_value g = record {
  app = option_map (λ s. s.now) g.app;
  script = option_map (λ s. s.now) g.script;
  size = option_map (λ s. s.now) g.size;
  check = option_map (λ s. s.now) g.check;
  workload = option_map (λ s. s.now) g.workload;
  trace = g.trace;
  state = g.state;
  layout = g.layout;
  prefs = g.prefs;
}
