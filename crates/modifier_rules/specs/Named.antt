-- The names of the language that views and modifiers are written with: guides, alignments, edges and modifiers.
use Rattle.std.specs.Prelude.{Bool, true, false, List, [], ◌∷◌, Option, Some, None, codes, if◌then◌else◌}
use Rattle.std.specs.Str.{bytes_eq}
use Rattle.align_guides.specs.declared.Axis.{Axis}
use Rattle.align_guides.specs.declared.Axis.TheVariants as axis
use Rattle.align_guides.specs.declared.GuideKind.{GuideKind}
use Rattle.align_guides.specs.declared.GuideKind.TheVariants as guide
use Rattle.swift_core.specs.declared.item.Alignment.{Alignment}
use Rattle.swift_core.specs.declared.item.Edges.{Edges}
use Rattle.swift_ast.specs.declared.tree.Expr.{Expr}
use Rattle.swift_ast.specs.declared.tree.Arg.{Arg}
use Rattle.type_base.specs.Claims.{and_then, or_else}
use Rattle.modifier_rules.specs.Parts.{Word, implicit_of, qualified, labelled_expr, plain_expr, label_is}
use Rattle.modifier_rules.specs.declared.names.Plain.{Plain}
use Rattle.modifier_rules.specs.declared.names.Plain.TheVariants as plain
use Rattle.modifier_rules.specs.declared.names.Modifier.{Modifier}
use Rattle.modifier_rules.specs.declared.names.Modifier.TheVariants as modifier

-- ---- guides

abbrev pub guide_named : Word → Option GuideKind
guide_named w =
    if bytes_eq w (codes "leading") then Some guide.Leading
    else (if bytes_eq w (codes "trailing") then Some guide.Trailing
    else (if bytes_eq w (codes "top") then Some guide.Top
    else (if bytes_eq w (codes "bottom") then Some guide.Bottom else None)))

-- `HorizontalAlignment.center` and `VerticalAlignment.center`
abbrev pub centre_named : Word → Word → Option GuideKind
centre_named w v =
    if bytes_eq v (codes "center") then
    (if bytes_eq w (codes "HorizontalAlignment") then Some guide.HorizontalCenter
    else (if bytes_eq w (codes "VerticalAlignment") then Some guide.VerticalCenter else None))
    else None

abbrev pub implicit_guide : Expr → Option GuideKind
implicit_guide e = and_then (implicit_of e) guide_named

-- a guide, as it is written; it is not looked up
abbrev pub guide_of : Expr → Option GuideKind
guide_of e = or_else (implicit_guide e) (and_then (qualified e) (λ x. centre_named x.0 x.1))

-- ---- alignments

abbrev pub aligned : GuideKind → GuideKind → Alignment
aligned h v = record { horizontal = h; vertical = v }

abbrev pub centre : Alignment
centre = aligned guide.HorizontalCenter guide.VerticalCenter

-- the names on the horizontal axis, for a VStack
abbrev pub horizontal_named : Word → Option Alignment
horizontal_named w =
    if bytes_eq w (codes "leading") then Some (aligned guide.Leading guide.VerticalCenter)
    else (if bytes_eq w (codes "center") then Some centre
    else (if bytes_eq w (codes "trailing") then Some (aligned guide.Trailing guide.VerticalCenter) else None))

-- the names on the vertical axis, for an HStack
abbrev pub vertical_named : Word → Option Alignment
vertical_named w =
    if bytes_eq w (codes "top") then Some (aligned guide.HorizontalCenter guide.Top)
    else (if bytes_eq w (codes "center") then Some centre
    else (if bytes_eq w (codes "bottom") then Some (aligned guide.HorizontalCenter guide.Bottom) else None))

abbrev pub corner_named : Word → Option Alignment
corner_named w =
    if bytes_eq w (codes "topLeading") then Some (aligned guide.Leading guide.Top)
    else (if bytes_eq w (codes "topTrailing") then Some (aligned guide.Trailing guide.Top)
    else (if bytes_eq w (codes "bottomLeading") then Some (aligned guide.Leading guide.Bottom)
    else (if bytes_eq w (codes "bottomTrailing") then Some (aligned guide.Trailing guide.Bottom) else None)))

-- the alignments of a stack along this axis; those of a ZStack are those of frames and decorations too
abbrev pub alignment_named : Axis → Word → Option Alignment
alignment_named axis.V w = horizontal_named w
alignment_named axis.H w = vertical_named w
alignment_named axis.Z w = or_else (horizontal_named w) (or_else (vertical_named w) (corner_named w))

-- `alignment: .name`
abbrev pub alignment_in : Axis → Arg → Option Alignment
alignment_in x a = and_then (labelled_expr (codes "alignment") a) (λ e. and_then (implicit_of e) (alignment_named x))

-- an alignment in front of the other arguments; the centre where there is none
abbrev pub take_alignment : Axis → List Arg → Option (Alignment × List Arg)
take_alignment x [] = Some (centre, [])
take_alignment x (a ∷ rest) =
    if label_is a (codes "alignment") then and_then {B = Alignment × List Arg} (alignment_in x a) (λ al. Some (al, rest))
    else Some (centre, a ∷ rest)

-- an alignment alone; the centre where there is none
abbrev pub last_alignment : List Arg → Option Alignment
last_alignment [] = Some centre
last_alignment (a ∷ []) = alignment_in axis.Z a
last_alignment (a ∷ b ∷ more) = None

-- ---- edges

abbrev pub edges : Bool → Bool → Bool → Bool → Edges
edges t l b r = record { top = t; leading = l; bottom = b; trailing = r }

abbrev pub every_edge : Edges
every_edge = edges true true true true

abbrev pub edges_named : Word → Option Edges
edges_named w =
    if bytes_eq w (codes "all") then Some every_edge
    else (if bytes_eq w (codes "horizontal") then Some (edges false true false true)
    else (if bytes_eq w (codes "vertical") then Some (edges true false true false)
    else (if bytes_eq w (codes "top") then Some (edges true false false false)
    else (if bytes_eq w (codes "bottom") then Some (edges false false true false)
    else (if bytes_eq w (codes "leading") then Some (edges false true false false)
    else (if bytes_eq w (codes "trailing") then Some (edges false false false true) else None))))))

abbrev pub edges_in : Arg → Option Edges
edges_in a = and_then (plain_expr a) (λ e. and_then (implicit_of e) edges_named)

-- edges in front of the other arguments; all where there are none
abbrev pub take_edges : List Arg → Edges × List Arg
take_edges [] = (every_edge, [])
take_edges (a ∷ rest) = elim (edges_in a) [ Some e ↦ (e, rest) | None ↦ (every_edge, a ∷ rest) ]

-- ---- modifiers

-- the labels of the frame whose size can change
abbrev pub is_flexible : Arg → Bool
is_flexible a =
    if label_is a (codes "minWidth") then true
    else (if label_is a (codes "idealWidth") then true
    else (if label_is a (codes "maxWidth") then true
    else (if label_is a (codes "minHeight") then true
    else (if label_is a (codes "idealHeight") then true else label_is a (codes "maxHeight")))))

-- the two frames have one name: the label of the first argument tells which it is
abbrev pub frame_of : List Arg → Plain
frame_of [] = plain.FixedFrame
frame_of (a ∷ rest) = if is_flexible a then plain.FlexibleFrame else plain.FixedFrame

abbrev pub plain_named : Word → List Arg → Option Plain
plain_named w args =
    if bytes_eq w (codes "frame") then Some (frame_of args)
    else (if bytes_eq w (codes "padding") then Some plain.Padding
    else (if bytes_eq w (codes "fixedSize") then Some plain.FixedSize
    else (if bytes_eq w (codes "offset") then Some plain.Offset
    else (if bytes_eq w (codes "layoutPriority") then Some plain.LayoutPriority
    else (if bytes_eq w (codes "lineLimit") then Some plain.LineLimit
    else (if bytes_eq w (codes "disabled") then Some plain.Disabled
    else (if bytes_eq w (codes "allowsHitTesting") then Some plain.AllowsHitTesting else None)))))))

-- those that make no node
abbrev pub dropped_named : Word → Option Modifier
dropped_named w =
    if bytes_eq w (codes "bold") then Some modifier.Bold
    else (if bytes_eq w (codes "font") then Some modifier.Style
    else (if bytes_eq w (codes "imageScale") then Some modifier.Style
    else (if bytes_eq w (codes "foregroundStyle") then Some modifier.Style
    else (if bytes_eq w (codes "tint") then Some modifier.Style else None))))

-- those with one expression or two
abbrev pub value_named : Word → Option Modifier
value_named w =
    if bytes_eq w (codes "id") then Some modifier.Id
    else (if bytes_eq w (codes "environment") then Some modifier.Environment
    else (if bytes_eq w (codes "preference") then Some modifier.Preference
    else (if bytes_eq w (codes "alignmentGuide") then Some modifier.AlignmentGuide else dropped_named w)))

-- those that hold views
abbrev pub content_named : Word → Option Modifier
content_named w =
    if bytes_eq w (codes "overlay") then Some modifier.Overlay
    else (if bytes_eq w (codes "background") then Some modifier.Background
    else (if bytes_eq w (codes "overlayPreferenceValue") then Some modifier.OverlayReader
    else (if bytes_eq w (codes "backgroundPreferenceValue") then Some modifier.BackgroundReader else value_named w)))

-- those that hold an action, and then the others
abbrev pub closure_named : Word → Option Modifier
closure_named w =
    if bytes_eq w (codes "onAppear") then Some modifier.OnAppear
    else (if bytes_eq w (codes "onDisappear") then Some modifier.OnDisappear
    else (if bytes_eq w (codes "onChange") then Some modifier.OnChange
    else (if bytes_eq w (codes "onPreferenceChange") then Some modifier.OnPreferenceChange
    else (if bytes_eq w (codes "onTapGesture") then Some modifier.OnTapGesture else content_named w))))

-- the modifier of the name; the arguments tell the two frames apart
abbrev pub modifier_named : Word → List Arg → Option Modifier
modifier_named w args = elim (plain_named w args) [ Some p ↦ Some (modifier.Plain p) | None ↦ closure_named w ]
