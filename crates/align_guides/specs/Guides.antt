-- Where the guides of a size stand, and what an expression over them gives.
use Rattle.std.specs.Prelude.{ℤ, pos, ◌/◌, ◌+ℤ◌, ◌-ℤ◌, ◌*ℤ◌, int_div, Bool, true, ◌&&◌, not}
use Rattle.std.specs.Ordering.{int_eq}
use Rattle.align_guides.specs.Lengths.{held}
use Rattle.align_guides.specs.declared.Size.{Size}
use Rattle.align_guides.specs.declared.GuideKind.{GuideKind}
use Rattle.align_guides.specs.declared.GuideKind.TheVariants as kind
use Rattle.align_guides.specs.declared.GuideSet.{GuideSet}
use Rattle.align_guides.specs.declared.GuideExpr.{GuideExpr}
use Rattle.align_guides.specs.declared.GuideExpr.TheOpen as one
use Rattle.align_guides.specs.declared.GuideExpr.TheOpen.{GuideExpr-F}
use Rattle.align_guides.specs.declared.GuideExpr.TheFolds.{fold-GuideExpr}

-- the guides of a size: leading and top are 0, a centre is the floor of half, trailing and bottom are the length
abbrev pub guide_of : GuideKind → Size → ℤ
guide_of kind.Leading s = pos 0
guide_of kind.Trailing s = pos s.w
guide_of kind.Top s = pos 0
guide_of kind.Bottom s = pos s.h
guide_of kind.HorizontalCenter s = pos (s.w / 2)
guide_of kind.VerticalCenter s = pos (s.h / 2)

abbrev pub guides_of : Size → GuideSet
guides_of s = record {
  leading = guide_of kind.Leading s;
  trailing = guide_of kind.Trailing s;
  top = guide_of kind.Top s;
  bottom = guide_of kind.Bottom s;
  horizontal_center = guide_of kind.HorizontalCenter s;
  vertical_center = guide_of kind.VerticalCenter s;
}

-- the guide of this kind
abbrev pub guide_in : GuideKind → GuideSet → ℤ
guide_in kind.Leading g = g.leading
guide_in kind.Trailing g = g.trailing
guide_in kind.Top g = g.top
guide_in kind.Bottom g = g.bottom
guide_in kind.HorizontalCenter g = g.horizontal_center
guide_in kind.VerticalCenter g = g.vertical_center

-- the guides where the guide of this kind was set, outside all that set it before
abbrev pub guide_set : GuideSet → GuideKind → ℤ → GuideSet
guide_set g kind.Leading z = record g { leading = z }
guide_set g kind.Trailing z = record g { trailing = z }
guide_set g kind.Top z = record g { top = z }
guide_set g kind.Bottom z = record g { bottom = z }
guide_set g kind.HorizontalCenter z = record g { horizontal_center = z }
guide_set g kind.VerticalCenter z = record g { vertical_center = z }

-- the value of an expression, with the values of its parts in their places; each literal and each step is held to
-- the limit both ways, and a quotient goes towards zero
abbrev pub value_step : Size → GuideSet → GuideExpr-F ℤ → ℤ
value_step s g one.Width = pos s.w
value_step s g one.Height = pos s.h
value_step s g (one.Guide a) = held (guide_in a g)
value_step s g (one.Literal n) = held n
value_step s g (one.Sum a b) = held (a +ℤ b)
value_step s g (one.Difference a b) = held (a -ℤ b)
value_step s g (one.Product a b) = held (a *ℤ b)
value_step s g (one.Quotient a n) = held (int_div a (held n))

abbrev pub value_of : GuideExpr → Size → GuideSet → ℤ
value_of e s g = fold-GuideExpr ℤ (value_step s g) e

-- whether no divisor is 0
abbrev pub divides_step : GuideExpr-F Bool → Bool
divides_step one.Width = true
divides_step one.Height = true
divides_step (one.Guide a) = true
divides_step (one.Literal n) = true
divides_step (one.Sum a b) = a && b
divides_step (one.Difference a b) = a && b
divides_step (one.Product a b) = a && b
divides_step (one.Quotient a n) = a && not (int_eq n (pos 0))

abbrev pub divides : GuideExpr → Bool
divides e = fold-GuideExpr Bool divides_step e
