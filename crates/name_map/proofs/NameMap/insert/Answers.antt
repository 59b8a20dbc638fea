use Rattle.std.proofs.Common.{◌≡◌, None, IfOk, OnOk, OnErr, ap, subst, sym, ◌∙◌}
use Rattle.std.specs.FinMap as fin
use Rattle.std.specs.Option.{is_some}
use Rattle.name_map.specs.Held.{places_of}
use Rattle.name_map.proofs.HeldLemmas.{places_of-put, get_held}
use Rattle.name_map.proofs.NameMap.insert.Goals as goal
use Rattle.name_map.proofs.NameMap.insert.Goals.{in-Ok, in-Err}

pub returns-clause-held : goal.returns-clause-held
returns-clause-held c =
    let before = sym (get_held c.self.inside.places.entries c.args.name.items) ∙ ap (λ m. fin.get m c.args.name.items) c.self.view_is in
    elim c.match-insert.branch [
      | in-Ok w ↦ subst (λ r. IfOk r (λ held. held ≡ is_some (fin.get c.args.self.now c.args.name.items))) (sym w.result-is)
          (w.is_some.ensures ∙ ap is_some (w.in-Ok.ensures.old ∙ before))
      | in-Err w ↦ subst (λ r. IfOk r (λ held. held ≡ is_some (fin.get c.args.self.now c.args.name.items))) (sym w.result-is) tt
    ]

pub returns-clause-ok : goal.returns-clause-ok
returns-clause-ok c =
    let Put = ◌≡◌ (places_of c.insert.new.self.entries) (fin.insert c.args.self.now c.args.name.items c.args.place) in
    elim c.match-insert.branch [
      | in-Ok w ↦ subst (λ r. OnOk r Put) (sym w.result-is)
          (places_of-put c.self.inside.places.entries c.insert.new.self.entries c.args.name c.args.place w.in-Ok.ensures.entries
          ∙ ap (λ m. fin.insert m c.args.name.items c.args.place) c.self.view_is)
      | in-Err w ↦ subst (λ r. OnOk r Put) (sym w.result-is) tt
    ]

pub returns-clause-absent : goal.returns-clause-absent
returns-clause-absent c =
    let Absent = fin.get c.args.self.now c.args.name.items ≡ None in
    let before = sym (get_held c.self.inside.places.entries c.args.name.items) ∙ ap (λ m. fin.get m c.args.name.items) c.self.view_is in
    elim c.match-insert.branch [
      | in-Ok w ↦ subst (λ r. OnErr r Absent) (sym w.result-is) tt
      | in-Err w ↦ subst (λ r. OnErr r Absent) (sym w.result-is) (sym before ∙ w.in-Err.ensures.absent)
    ]
