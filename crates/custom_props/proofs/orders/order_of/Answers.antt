use Rattle.std.proofs.Common.{◌≡◌, ◌+◌, ◌<◌, ◌++◌, ap, sym, subst, rules, arith, length, length-append, List, [], ◌∷◌, ℕ}
use Rattle.custom_props.specs.declared.orders.Task.{Task}
use Rattle.custom_props.specs.declared.orders.Task.TheVariants.{Enter, Leave}
use Rattle.custom_props.specs.inner.Walks.{Orders, tasks_ahead}
use Rattle.custom_props.proofs.Ordering.{fewer_tasks, orders_end, orders_entered, orders_init, orders_leave}
use Rattle.custom_props.proofs.orders.order_of.Goals as goal

pub loop-task-init : goal.loop-task-init
loop-task-init c =
    subst (λ (o : List ℕ). Orders c.args.graph.now c.in_ok-marks.marks c.in_ok-tasks.tasks o) (sym c.new-order.ensures)
    (orders_init c.args.graph.now c.in_ok-marks.marks c.in_ok-tasks.tasks c.in_ok-marks.ensures c.in_ok-tasks.ensures)

pub loop-task-smaller-in-Continue-branch-3 : goal.loop-task-smaller-in-Continue-branch-3
loop-task-smaller-in-Continue-branch-3 c =
    let split : c.loop-task.tasks ≡ c.pop.new.self ++ Enter c.in-Enter.place ∷ [] = search rules in
    let fewer = fewer_tasks c.args.graph.now c.loop-task.marks c.enter.new.marks c.in-Enter.place c.pop.new.self
    c.enter.new.tasks c.loop-task.invariant.same_length c.in_ok-enter-in-Enter.ensures in
    let less : length c.enter.new.tasks + tasks_ahead c.args.graph.now c.enter.new.marks
    < length c.loop-task.tasks + tasks_ahead c.args.graph.now c.loop-task.marks =
    omega (arith, fewer, ap length split, length-append c.pop.new.self (Enter c.in-Enter.place ∷ [])) in
    less

pub loop-task-preserved-in-Continue-branch-3 : goal.loop-task-preserved-in-Continue-branch-3
loop-task-preserved-in-Continue-branch-3 c =
    let split : c.loop-task.tasks ≡ c.pop.new.self ++ Enter c.in-Enter.place ∷ [] = search rules in
    orders_entered c.args.graph.now c.loop-task.marks c.enter.new.marks c.in-Enter.place c.loop-task.tasks c.pop.new.self
    c.enter.new.tasks c.loop-task.order c.requires split c.in_ok-enter-in-Enter.ensures c.loop-task.invariant

pub loop-task-preserved : goal.loop-task-preserved
loop-task-preserved c =
    let split : c.loop-task.tasks ≡ c.pop.new.self ++ Leave c.in-Leave.place ∷ [] = search rules in
    orders_leave c.args.graph.now c.loop-task.marks c.in-Leave.place c.loop-task.tasks c.pop.new.self c.loop-task.order
    c.push.new.self split c.in_ok-push-in-Leave.ensures.ok c.loop-task.invariant

pub returns : goal.returns
returns c =
    let none : c.loop-task.tasks ≡ [] = search rules in
    orders_end c.args.graph.now c.loop-task.marks c.loop-task.order
    (subst (λ (ts : List Task). Orders c.args.graph.now c.loop-task.marks ts c.loop-task.order) none c.loop-task.invariant)
