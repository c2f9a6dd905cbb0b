-- When two monitors are both sound and equal.
-- Assumes nothing.
use Rattle.std.specs.Prelude.{List, [], ◌∷◌, Bool, true, false, ◌&&◌}
use Rattle.rules.specs.Choice.{pick, same}
use Rattle.rules.specs.Record.{live}
use Rattle.rules.specs.Sound.{sound}
use Rattle.rules.specs.declared.Party.{Party}
use Rattle.rules.specs.declared.Link.{Link}
use Rattle.rules.specs.declared.Monitor.{Monitor}

module _ {A : Type 0} where
  -- as long as each other, and alike place by place
  unfoldable pub all_same : (A → A → Bool) → List A → List A → Bool
  all_same f [] [] = true
  all_same f [] (y ∷ ys) = false
  all_same f (x ∷ xs) [] = false
  all_same f (x ∷ xs) (y ∷ ys) = pick (f x y) (all_same f xs ys) false

unfoldable pub same_party : Party → Party → Bool
same_party x y =
    same x.opened y.opened && (same x.control y.control && (same x.timeout y.timeout && (same x.services y.services
    && (same x.owned y.owned && (same x.deadline y.deadline && (same x.rollbackonly y.rollbackonly && (same x.served y.served
    && (all_same same x.reports y.reports && (same x.mayrequest y.mayrequest && same x.mayadvertise y.mayadvertise)))))))))

-- all fields alike, unread compared by how many
unfoldable pub same_link : Link → Link → Bool
same_link x y =
    same x.number y.number && (same x.kind y.kind && (same x.originator y.originator && (same x.attached y.attached
    && (same x.service y.service && (same x.tx y.tx && (same x.state y.state && (same x.server y.server
    && (same x.first y.first && (same x.outcome y.outcome && (same x.ending y.ending && (same x.sender y.sender
    && (same x.granting y.granting && (same x.disconnected y.disconnected && same x.filled y.filled)))))))))))))

unfoldable pub same_record : Monitor → Monitor → Bool
same_record x y =
    same x.clock y.clock && (same x.lastlink y.lastlink && (same x.lasttx y.lasttx && (same x.count y.count
    && (all_same same_party x.parties y.parties && all_same same_link (live x) (live y)))))

unfoldable pub equal : Monitor → Monitor → Bool
equal x y = pick (sound x) (pick (sound y) (same_record x y) false) false
