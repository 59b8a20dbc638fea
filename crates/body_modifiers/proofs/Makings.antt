-- A modifier is made of what its kind is made of.
use Rattle.std.proofs.Common.{◌≡◌, List, Option, refl, ap}
use Rattle.sv_value.specs.declared.value.Value.{Value}
use Rattle.swift_core.specs.declared.item.CoreItem.{CoreItem}
use Rattle.swift_core.specs.declared.item.ModifierKind.{ModifierKind as CallKind}
use Rattle.swift_core.specs.declared.item.ModifierKind.TheVariants as call
use Rattle.core_means.specs.Asks.{World, Look, Reads, Doing, under}
use Rattle.view_nodes.specs.declared.node.Element.{Element}
use Rattle.body_means.specs.Building.{Building}
use Rattle.body_means.specs.Modified.{Standing, modified}
use Rattle.body_modifiers.specs.Makings.{makes, made_by}

pub made_of : (b : Building) (s : Standing) (k : CallKind) (os : List (Option Value)) (xs : List CoreItem)
    → modified b s k os xs ≡ made_by b s (makes s.decoration k) os xs
unfolding modified makes made_by
made_of b s (call.FixedFrame a) os xs = refl
made_of b s (call.FlexibleFrame a) os xs = refl
made_of b s (call.Padding edges) os xs = refl
made_of b s call.FixedSize os xs = refl
made_of b s call.Offset os xs = refl
made_of b s call.LayoutPriority os xs = refl
made_of b s call.LineLimit os xs = refl
made_of b s (call.AlignmentGuide g e) os xs = refl
made_of b s (call.Overlay a) os xs = refl
made_of b s (call.Background a) os xs = refl
made_of b s call.Id os xs = refl
made_of b s (call.Environment key) os xs = refl
made_of b s call.Disabled os xs = refl
made_of b s call.AllowsHitTesting os xs = refl
made_of b s (call.Preference key) os xs = refl
made_of b s (call.OverlayReader key id) os xs = refl
made_of b s (call.BackgroundReader key id) os xs = refl
made_of b s (call.OnAppear id) os xs = refl
made_of b s (call.OnDisappear id) os xs = refl
made_of b s (call.OnChange id) os xs = refl
made_of b s (call.OnPreferenceChange key id) os xs = refl
made_of b s (call.OnTapGesture id) os xs = refl

-- and so it is under a look-up
pub made_under : (look : Look) (reads : Reads) (b : Building) (s : Standing) (k : CallKind) (os : List (Option Value)) (xs : List CoreItem) (w : World)
    → under look reads (modified b s k os xs w) ≡ under look reads (made_by b s (makes s.decoration k) os xs w)
made_under look reads b s k os xs w = ap (λ (m : Doing Element). under look reads (m w)) (made_of b s k os xs)
