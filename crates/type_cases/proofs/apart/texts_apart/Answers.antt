use Rattle.std.specs.Ordering.{eq_by_cmp}
use Rattle.std.specs.String.{string_cmp}
use Rattle.std.proofs.lemmas.Result.{IfOk-weaker}
use Rattle.type_cases.proofs.KeyLaws.{IsDistinctAnswer, texts_apart}
use Rattle.type_cases.proofs.apart.texts_apart.Goals as goal

pub returns : goal.returns
returns c =
    record {
      value = IfOk-weaker c.distinct.result (IsDistinctAnswer (eq_by_cmp string_cmp) c.in_ok-keys.keys.items) _
          (λ b h all. texts_apart c.args.values.now c.in_ok-keys.keys.items c.in_ok-keys.ensures.value b h all)
          c.distinct.ensures.value;
    }
