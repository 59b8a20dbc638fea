-- What a frame, a padding and a fixed size propose to their content, and what size they take of it.
use Rattle.std.specs.Prelude.{ℕ, ℤ, ◌+◌, ◌-◌, ◌≤◌, min, max, Option, Some, None, unwrap_or, Bool, if◌then◌else◌}
use Rattle.std.specs.Option.{option_map, option_or}
use Rattle.align_guides.specs.declared.Proposal.{Proposal}
use Rattle.align_guides.specs.declared.Size.{Size}
use Rattle.align_guides.specs.Lengths.{limit, saturated, length_of}
use Rattle.frame_layout.specs.declared.Bounds.{Bounds}
use Rattle.frame_layout.specs.declared.FrameRule.{FrameRule}
use Rattle.frame_layout.specs.declared.FrameRule.TheVariants.{Fixed, Flexible}
use Rattle.frame_layout.specs.declared.Insets.{Insets}

-- a number that is given, as a length
abbrev pub given : Option ℤ → Option ℕ
given n = option_map length_of n

-- a length held between two
abbrev pub clamped : ℕ → ℕ → ℕ → ℕ
clamped lo hi n = min hi (max lo n)

-- A fixed frame: a number that is given is proposed and is the size; else both are the content's.
abbrev pub fixed_length : Option ℤ → ℕ → ℕ
fixed_length n s = unwrap_or (given n) s

-- A flexible frame along one axis. First, what it is asked for: the proposal, or the ideal where the proposal is nil.
abbrev pub asked : Bounds → Option ℕ → Option ℕ
asked r p = option_or p (given r.ideal)

-- the max, where it is given; below the min it counts as the min
abbrev pub not_below : Option ℕ → Option ℕ → Option ℕ
not_below lo None = None
not_below None (Some hi) = Some hi
not_below (Some lo) (Some hi) = Some (max lo hi)

abbrev pub max_of : Bounds → Option ℕ
max_of r = not_below (given r.min) (given r.max)

-- the least length, 0 where no min is given, and the greatest, the limit where no max is given
abbrev pub least : Bounds → ℕ
least r = unwrap_or (given r.min) 0

abbrev pub greatest : Bounds → ℕ
greatest r = unwrap_or (max_of r) limit

-- what the content is proposed: nil where nothing is asked for, else what is asked for, between the least and the greatest
abbrev pub proposed_within : ℕ → ℕ → Option ℕ → Option ℕ
proposed_within lo hi None = None
proposed_within lo hi (Some p) = Some (clamped lo hi p)

abbrev pub flexible_proposal : Bounds → Option ℕ → Option ℕ
flexible_proposal r p = proposed_within (least r) (greatest r) (asked r p)

-- the lower end of the size where the content takes s: min where it is given, with max alone the smaller of s and max, else s
abbrev pub lower_end : Option ℕ → Option ℕ → ℕ → ℕ
lower_end (Some lo) hi s = lo
lower_end None (Some hi) s = min s hi
lower_end None None s = s

-- the upper end: max where it is given, else the greater of s and the lower end
abbrev pub upper_end : Option ℕ → ℕ → ℕ → ℕ
upper_end (Some hi) lo s = hi
upper_end None lo s = max s lo

-- the size where p was asked for and the content takes s: s between the least and the greatest where nothing was asked
-- for, else p between the ends
abbrev pub length_within : Bounds → Option ℕ → ℕ → ℕ
length_within r None s = clamped (least r) (greatest r) s
length_within r (Some p) s =
    let lo = lower_end (given r.min) (max_of r) s in
    clamped lo (upper_end (max_of r) lo s) p

abbrev pub flexible_length : Bounds → Option ℕ → ℕ → ℕ
flexible_length r p s = length_within r (asked r p) s

-- a frame, each axis by its own arguments
abbrev pub framed_proposal : FrameRule → Proposal → Proposal
framed_proposal (Fixed width height) p = record { w = option_or (given width) p.w; h = option_or (given height) p.h }
framed_proposal (Flexible width height) p = record { w = flexible_proposal width p.w; h = flexible_proposal height p.h }

abbrev pub framed_size : FrameRule → Proposal → Size → Size
framed_size (Fixed width height) p s = record { w = fixed_length width s.w; h = fixed_length height s.h }
framed_size (Flexible width height) p s = record { w = flexible_length width p.w s.w; h = flexible_length height p.h s.h }

-- every inset is a length
pub record IsInsets (i : Insets) : Type 0 where
  pub top : i.top ≤ limit
  pub leading : i.leading ≤ limit
  pub bottom : i.bottom ≤ limit
  pub trailing : i.trailing ≤ limit

-- a proposal less an amount, not below 0
abbrev pub less : Option ℕ → ℕ → Option ℕ
less None n = None
less (Some p) n = Some (p - n)

-- a padding
abbrev pub padded_proposal : Insets → Proposal → Proposal
padded_proposal i p = record { w = less p.w (i.leading + i.trailing); h = less p.h (i.top + i.bottom) }

abbrev pub padded_size : Insets → Size → Size
padded_size i s = record {
  w = saturated (s.w + (i.leading + i.trailing));
  h = saturated (s.h + (i.top + i.bottom));
}

-- a fixed size: nil on the axes that are chosen
abbrev pub freed : Bool → Option ℕ → Option ℕ
freed chosen p = if chosen then None else p

abbrev pub fixed_proposal_of : Bool → Bool → Proposal → Proposal
fixed_proposal_of horizontal vertical p = record { w = freed horizontal p.w; h = freed vertical p.h }
