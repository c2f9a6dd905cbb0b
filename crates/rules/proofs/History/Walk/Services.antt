-- The walk over kinds 10 and 11: a party offers a service, and no longer does.
-- Assumes nothing.
use Rattle.std.proofs.Common.{◌≡◌, refl, true, false, ℕ, ◌<◌}
use Rattle.rules.specs.Codes.{bad_argument, not_offered, no_room_left, not_permitted}
use Rattle.rules.specs.Record.{party, offering}
use Rattle.rules.specs.Services.{offered, offers_now, advertise_of, unadvertise_of}
use Rattle.rules.specs.declared.Call.{Call}
use Rattle.rules.specs.declared.Monitor.{Monitor}
use Rattle.rules.proofs.Fine.{Fine}
use Rattle.rules.proofs.History.Walk.Moved.{Moved}
use Rattle.rules.proofs.History.Walk.Says.{is_plain, is_timed}
use Rattle.rules.proofs.History.Walk.Base.{ask_moved, refused, moved_party}

module _ (m : Monitor) (c : Call) (f : Fine m) (b : c.party < 16) where
  offers_moved : (k : ℕ) → c.kind ≡ k → is_plain k ≡ true → is_timed k ≡ false → (s : ℕ) → Moved m c (offers_now m c.party s)
  unfolding offers_now
  offers_moved k e h i s = moved_party m c (offered s) c.party (offering (party m c.party) s) k f b e h i
      (record { opened' = refl; timeout' = refl; owned' = refl; deadline' = refl; served' = refl; reports' = refl }) (λ _. (refl, refl)) refl (λ g. g)

  pub advertise_moved : c.kind ≡ 10 → Moved m c (advertise_of m c.party c.a)
  unfolding advertise_of
  advertise_moved e = ask_moved (λ _. ask_moved (λ _. ask_moved
      (λ _. offers_moved 10 e refl refl _) (λ _. refused no_room_left refl f)) (λ _. refused not_permitted refl f)) (λ _. refused bad_argument refl f)

  pub unadvertise_moved : c.kind ≡ 11 → Moved m c (unadvertise_of m c.party c.a)
  unfolding unadvertise_of
  unadvertise_moved e = ask_moved (λ _. ask_moved (λ _. offers_moved 11 e refl refl _) (λ _. refused not_offered refl f)) (λ _. refused bad_argument refl f)
