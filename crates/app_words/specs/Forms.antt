-- The form that the words make.
use Rattle.std.specs.Prelude.{ℕ, ⊤, ◌≤◌, ◌==◌, ◌&&◌, not, Bool, List, [], Option, Some, None, nat_le, is_some, option_map, option_and_then, if◌then◌else◌}
use Rattle.std.specs.List.{before_first, after_first}
use Rattle.clap.specs.Words.{Kinds, Text, fault_of, matches_of}
use Rattle.app_words.specs.Command.{command}
use Rattle.app_words.specs.Given.{Given, given_by}
use Rattle.app_words.specs.Numbers.{if_within, number_of, workload_of}
use Rattle.app_words.specs.declared.form.Form.{Form as FormWords}
use Rattle.app_words.specs.declared.form.Form.TheVariants as words
use Rattle.app_words.specs.declared.form.Listings.{Listings}
use Rattle.align_guides.specs.declared.Size.{Size}

pub data Form : Type 0 where
  run : Size → Listings → Text → Text → Form
  check : Text → Form
  workload : ℕ → Form

abbrev pub form_value : FormWords → Form
form_value (words.Run size listings app script) = run size listings app.now script.now
form_value (words.Check app) = check app.now
form_value (words.Workload count) = workload count

-- digits, `x` (120), digits
abbrev pub size_within : ℕ → ℕ → Option Size
size_within width height = if (nat_le 1 width && nat_le width 200) && (nat_le 1 height && nat_le height 100)
    then Some (record { w = width; h = height }) else None

abbrev pub size_of : Text → Option Size
size_of text = option_and_then (λ width. option_and_then (size_within width)
    (number_of 3 (after_first (λ b. b == 120) text))) (number_of 3 (before_first (λ b. b == 120) text))

abbrev pub size_given : Option Text → Option Size
size_given None = Some (record { w = 80; h = 24 })
size_given (Some text) = size_of text

-- nothing besides the values of a form
abbrev pub is_bare : Given → Bool
is_bare given = not (is_some given.size) && (not given.trace && (not given.state && (not given.layout && not given.prefs)))

abbrev pub listings_of : Given → Listings
listings_of given = record { trace = given.trace; state = given.state; layout = given.layout; prefs = given.prefs }

abbrev pub form_at : Option Text → Option Text → Option Text → Option Text → Given → Option Form
form_at None None (Some app) (Some script) given = option_map (λ size. run size (listings_of given) app script) (size_given given.size)
form_at (Some app) None None None given = if is_bare given then Some (check app) else None
form_at None (Some count) None None given = if is_bare given then option_map workload (workload_of count) else None
form_at _ _ _ _ given = None

-- the form that what was given makes, where it makes exactly one
abbrev pub form_by : Given → Option Form
form_by given = form_at given.check given.workload given.app given.script given

-- a canvas is 1 to 200 cells wide and 1 to 100 high
pub record IsCanvas (size : Size) : Type 0 where
  pub some_width : 1 ≤ size.w
  pub width : size.w ≤ 200
  pub some_height : 1 ≤ size.h
  pub height : size.h ≤ 100

-- the numbers that a form holds are within the limits of a canvas and of a workload
abbrev pub InLimits : Option Form → Type 0
InLimits None = ⊤
InLimits (Some (run size listings app script)) = IsCanvas size
InLimits (Some (check app)) = ⊤
InLimits (Some (workload count)) = (1 ≤ count) × (count ≤ 3000)

abbrev pub unless_refused : Kinds → Option Form → Option Form
unless_refused [] form = form
unless_refused _ form = None

-- the form of the words; none where clap refuses them, or where they make none of the three
unfoldable pub FormOf : List Text → Option Form
FormOf words = unless_refused (fault_of command words) (form_by (given_by (matches_of command words)))
