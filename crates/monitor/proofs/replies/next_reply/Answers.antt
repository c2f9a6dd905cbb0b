-- `replies::next_reply` meets its contract.
use Rattle.monitor.proofs.Usual.{rules, view}
use Rattle.rules.specs.Replies.{replied_end}
use Rattle.monitor.proofs.Replied.{replied_from}
use Rattle.monitor.proofs.replies.next_reply.Goals as goal

pub returns : goal.returns
returns c =
    let a = c.args in
    c.first_link_from.ensures.first (replied_end a.p.index) (λ x b t. search rules) (replied_from (view a.s.now) a.p.index c.requires.1)
