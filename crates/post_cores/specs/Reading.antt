-- The value at a place is well typed, and so are places within it.
use Rattle.std.specs.Prelude.{◌≡◌, ℕ, true, List, [], ◌∷◌, ◌++◌, Some}
use Rattle.std.proofs.Common.{sym, ap, subst, ◌∙◌}
use Rattle.swift_core.specs.Context as cores
use Rattle.swift_core.specs.Context.{Itself, HasMember, OwnMember}
use Rattle.swift_core.specs.Types.{named_at}
use Rattle.swift_core.specs.Typing.{Has, Looks, Places, Begins, Leads, Steps, is_value, HopForm}
use Rattle.swift_core.specs.declared.term.ChangeCall.TheOpen.{CoreHop-F}
use Rattle.swift_core.specs.declared.term.Core.{Core, out-Core}
use Rattle.swift_core.specs.declared.term.Core.TheVariants as core
use Rattle.swift_core.specs.declared.term.ChangeCall.TheViews.{outs-Look, outs-Unary, outs-Binary}
use Rattle.swift_core.specs.declared.term.CoreHop.{CoreHop, out-CoreHop}
use Rattle.swift_core.specs.declared.term.Lookup.TheVariants as lookup
use Rattle.swift_core.specs.declared.term.Root.{Root}
use Rattle.swift_core.specs.declared.term.Root.TheVariants as root
use Rattle.swift_core.specs.declared.term.Target.{Target, out-Target, out-roll-Target}
use Rattle.swift_core.specs.declared.ty.Ty.{Ty}
use Rattle.swift_core.specs.declared.ty.Ty.TheVariants as ty
use Rattle.swift_core.specs.declared.ty.Ty.TheViews as ty_view
use Rattle.type_base.specs.Claims.{some_is}
use Rattle.post_rules.specs.Places.{target, then_hop, part_at, read_on, read_own, read_from, read}
use Rattle.post_cores.specs.States.{has_by}

module _ (cx : cores.Context) (ls : List cores.Local) where
  part_good : (c : Core) (t u : Ty) (h : HopForm) → Has cx ls (out-Core c) t → Steps cx ls t h u → Has cx ls (out-Core (part_at c h)) u
  part_good c t u (CoreHop-F.Field at) g (Steps.to_field n m f) = has_by cx ls _ (outs-Unary _ _) (Has.field g n m f)
  part_good c t u (CoreHop-F.Index i) g (Steps.to_element e k) = has_by cx ls _ (outs-Binary _ _ _) (Has.element g e k)

  on_good : (hops : List CoreHop) (c : Core) (t u : Ty) → Has cx ls (out-Core c) t → Leads cx ls t hops u → Has cx ls (out-Core (read_on c hops)) u
  on_good [] c t u g Leads.there = g
  on_good (h ∷ hops) c t u g (Leads.step {u = v} s l) = on_good hops (part_at c (out-CoreHop h)) v u (part_good c t v (out-CoreHop h) g s) l

  own_good : (h : HopForm) (hops : List CoreHop) (d : ℕ) (t u : Ty) → is_value cx.itself ≡ true → cx.owner ≡ Some d → Steps cx ls (ty.Named d) h t → Leads cx ls t hops u
      → Has cx ls (out-Core (read_own h hops)) u
  own_good (CoreHop-F.Field at) hops d t u v o (Steps.to_field {d = e} n m f) l =
      let same : d ≡ e = some_is d e (sym (ap named_at (ty_view.outs-Named d)) ∙ n) in
      on_good hops (core.Look (lookup.OwnField at)) t u (has_by cx ls _ (outs-Look _) (Has.name (Looks.own_field v (e, o ∙ ap Some same, m) f))) l
  own_good (CoreHop-F.Index i) hops d t u v o (Steps.to_element e k) l =
      on_good hops _ t u (has_by cx ls _ (outs-Binary _ _ _) (Has.element (has_by cx ls _ (outs-Look _) (Has.name (Looks.itself v o))) e k)) l

  from_good : (r : Root) (hops : List CoreHop) (t u : Ty) → Begins cx ls r t → Leads cx ls t hops u → Has cx ls (out-Core (read_from r hops)) u
  from_good (root.Local at) hops t u (Begins.at_local s) l = on_good hops _ t u (has_by cx ls _ (outs-Look _) (Has.name (Looks.local s))) l
  from_good (root.BoundLocal at) hops t u (Begins.at_bound_local s) l = on_good hops _ t u (has_by cx ls _ (outs-Look _) (Has.name (Looks.bound_local s))) l
  from_good (root.BoundInput at) hops t u (Begins.at_bound_input v m f) l = on_good hops _ t u (has_by cx ls _ (outs-Look _) (Has.name (Looks.bound_input v m f))) l
  from_good (root.Slot place) hops t u (Begins.at_slot v m f) l = on_good hops _ t u (has_by cx ls _ (outs-Look _) (Has.name (Looks.slot v m f))) l
  from_good root.Itself [] t u (Begins.at_itself v o) l = on_good [] _ t u (has_by cx ls _ (outs-Look _) (Has.name (Looks.itself (ap is_value v) o))) l
  from_good root.Itself (h ∷ hops) t u (Begins.at_itself {d = d} v o) (Leads.step {u = w} s l) = own_good (out-CoreHop h) hops d w u (ap is_value v) o s l

  -- what is read at a place is well typed
  pub read_good : (p : Target) (t : Ty) → Places cx ls p t → Has cx ls (out-Core (read p)) t
  unfolding read
  read_good p t (Places.reached b l) = from_good (out-Target p).root (out-Target p).hops _ t b l

  leads_more : (hops : List CoreHop) (h : CoreHop) (t u v : Ty) → Leads cx ls t hops u → Steps cx ls u (out-CoreHop h) v → Leads cx ls t (hops ++ h ∷ []) v
  leads_more [] h t u v Leads.there s = Leads.step s Leads.there
  leads_more (g ∷ hops) h t u v (Leads.step {u = w} s l) r = Leads.step s (leads_more hops h w u v l r)

  pub reached_by : (r : Root) (hops : List CoreHop) (t u : Ty) → Begins cx ls r t → Leads cx ls t hops u → Places cx ls (target r hops) u
  reached_by r hops t u b l = let o = out-roll-Target (record { root = r; hops = hops }) in
      Places.reached {target = target r hops} {t = t} (subst (λ (x : Root). Begins cx ls x t) (ap (λ x. x.root) (sym o)) b) (subst (λ (x : List CoreHop). Leads cx ls t x u) (ap (λ x. x.hops) (sym o)) l)

  -- a step further leads to a place
  pub hop_good : (p : Target) (h : CoreHop) (t u : Ty) → Places cx ls p t → Steps cx ls t (out-CoreHop h) u → Places cx ls (then_hop p h) u
  hop_good p h t u (Places.reached {t = v} b l) s = reached_by (out-Target p).root _ v u b (leads_more (out-Target p).hops h v t u l s)
