-- `questions::measured` meets its contract. Assumes nothing.
use Rattle.std.proofs.Common.{rules}
use Rattle.instance.specs.Prepared.{chart_in}
use Rattle.questions.proofs.OrderLaws.{an_order}
use Rattle.questions.proofs.measured.Goals as goal

pub returns-in_err-order_check : goal.returns-in_err-order_check
unfolding chart_in
returns-in_err-order_check c = search rules

pub returns : goal.returns
returns c =
    let a = c.args in
    an_order a.p a.order.now _ c.order_check.ensures _
    c.in_ok-order_check.was c.length_of.ensures
