use Rattle.std.proofs.Common.{rules, ◌≡◌, true}
use Rattle.custom_props.specs.Order.{are_before}
use Rattle.custom_props.specs.Views.{values_view}
use Rattle.custom_props.proofs.LastName.{order_after_push}
use Rattle.custom_props.proofs.env.Env.append.Goals as goal

pub invariant_of-self : goal.invariant_of-self
invariant_of-self c =
    let before : are_before c.args.name (values_view c.args.self.now.values) ≡ true = search rules in
    record {
      order =
          order_after_push c.push.result c.args.self.now.values c.push.new.self
          (record { name = c.args.name; value = c.args.value })
          c.push.ensures.ok c.push.ensures.err c.args.self.now.order before;
    }
