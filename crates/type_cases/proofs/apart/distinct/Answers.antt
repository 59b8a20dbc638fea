use Rattle.std.proofs.Common.{rules, ◌≡◌, ◌∙◌, ap, length, nat_eq}
use Rattle.std.specs.Ordering.{eq_by_cmp}
use Rattle.std.specs.Set.{distinct_count}
use Rattle.std.proofs.lemmas.Map.Views.{btree_set_len-from_list}
use Rattle.type_cases.proofs.apart.distinct.Goals as goal

pub returns : goal.returns
returns g c =
    let different : c.len.result ≡ distinct_count (eq_by_cmp g.K.Ord.cmp) c.args.keys.items =
    c.len.ensures.len ∙ btree_set_len-from_list g.met.K.Ord.total c.args.keys.items c.in_ok-set.set c.in_ok-set.ensures.value in
    let all : c.len-count.result ≡ length c.args.keys.items = search rules in
    record { value = ap (λ n. nat_eq n c.len-count.result) different ∙ ap (λ n. nat_eq (distinct_count (eq_by_cmp g.K.Ord.cmp) c.args.keys.items) n) all }
