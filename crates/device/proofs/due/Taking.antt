-- Which mode takes which service: the test and the proposition.
use Rattle.octets.proofs.Kit.{ℕ, zero, suc, ◌≤◌, ◌≡◌, refl, sym, subst, ◌↔◌, ◌⊎◌, inl, inr, ⊎_elim, Bool, true, false, cond, ◌||◌, List, [], ◌∷◌, some, arith, eqb, get_elem?, eq-eqb}
use Rattle.octets.proofs.Kit.{eqb-true}
use Rattle.octets.proofs.Truths.{never, or_is, equal_is}
use Rattle.sheet.specs.Head.{later}
use Rattle.pdu.specs.declared.Service.{Service, TheVariants.{GroupValueRead, GroupValueResponse, GroupValueWrite, IndividualAddressWrite, IndividualAddressRead, SerialNumberRead}}
use Rattle.pdu.specs.declared.Service.TheVariants.{SerialNumberWrite, DeviceDescriptorRead, PropertyValueRead, PropertyValueWrite, PropertyDescriptionRead, MemoryRead, MemoryWrite}
use Rattle.pdu.specs.declared.Service.TheVariants.{MemoryBitWrite, AuthorizeRequest, KeyWrite, Restart, IndividualAddressResponse, SerialNumberResponse, DeviceDescriptorResponse}
use Rattle.pdu.specs.declared.Service.TheVariants.{PropertyValueResponse, PropertyDescriptionResponse, MemoryResponse, AuthorizeResponse, KeyResponse, UserMemoryRead, UserMemoryResponse}
use Rattle.pdu.specs.declared.Service.TheVariants.{UserMemoryWrite}
use Rattle.judge.specs.{Modes.{reach_of, reaches, takes}, declared.Reach.{Reach, TheVariants.{Multicast, Broadcast, PointToPoint, Connected, Never}}}
use Rattle.device.specs.Asked.{Among, Takes, to_group, to_all, to_one, on_connection, restarting, Served}

-- two modes
pub two_modes : (m a b : ℕ) → (eqb m a || eqb m b ≡ true) ↔ ((m ≡ a) ⊎ (m ≡ b))
two_modes m a b = (
  λ e. ⊎_elim (λ h. inl (eqb-true m a h)) (λ h. inr (eqb-true m b h)) ((or_is (eqb m a) (eqb m b)).0 e),
  λ h. (or_is (eqb m a) (eqb m b)).1 (⊎_elim (λ e. inl (eq-eqb m a e)) (λ e. inr (eq-eqb m b e)) h),
)

-- a place in a list of services, and what holds for each of them
pub among_at : (ks : List Service) (i : ℕ) {k : Service} → get_elem? ks i ≡ some k → Among ks k
unfolding Among
among_at [] i e = let z : false ≡ true = cc in never z
among_at (j ∷ ks) zero e = inl cc
among_at (j ∷ ks) (suc i) e = inr (among_at ks i e)

abbrev Each : (Service → Type 0) → List Service → Type 0
Each P [] = Unit {0}
Each P (k ∷ ks) = P k × Each P ks

among_each : (P : Service → Type 0) (ks : List Service) {k : Service} → Among ks k → Each P ks → P k
unfolding Among
among_each P [] h ps = absurd h
among_each P (j ∷ ks) (inl e) ps = subst P (sym e) ps.0
among_each P (j ∷ ks) (inr h) ps = among_each P ks h ps.1

module _ (rules m : ℕ) where
  abbrev Taken : Service → Type 0
  Taken k = takes (reach_of rules k) m ≡ true

  -- a restart: connected, and under the later rules connectionless too
  restart_to : (t : Bool) → eqb rules later ≡ t → takes (cond t PointToPoint Connected) m ≡ true → (m ≡ 3) ⊎ ((rules ≡ later) × (m ≡ 2))
  restart_to true e h = ⊎_elim (λ q. inr (eqb-true rules later e, q)) inl ((two_modes m 2 3).0 h)
  restart_to false e h = inl ((equal_is m 3).0 h)

  connected_restart : (t : Bool) → m ≡ 3 → takes (cond t PointToPoint Connected) m ≡ true
  connected_restart true e = (two_modes m 2 3).1 (inr e)
  connected_restart false e = (equal_is m 3).1 e

  pub restart_takes : (m ≡ 3) ⊎ ((rules ≡ later) × (m ≡ 2)) → Takes rules Restart m
  restart_takes = ⊎_elim (λ e. on_connection e (among_at _ 7 refl)) (λ q. restarting q.0 q.1 refl)

  takes_to : (k : Service) → Taken k → Takes rules k m
  takes_to GroupValueRead e = to_group ((equal_is m 0).0 e) (among_at _ 0 refl)
  takes_to GroupValueResponse e = to_group ((equal_is m 0).0 e) (among_at _ 1 refl)
  takes_to GroupValueWrite e = to_group ((equal_is m 0).0 e) (among_at _ 2 refl)
  takes_to IndividualAddressWrite e = to_all ((equal_is m 1).0 e) (among_at _ 0 refl)
  takes_to IndividualAddressRead e = to_all ((equal_is m 1).0 e) (among_at _ 1 refl)
  takes_to SerialNumberRead e = to_all ((equal_is m 1).0 e) (among_at _ 2 refl)
  takes_to SerialNumberWrite e = to_all ((equal_is m 1).0 e) (among_at _ 3 refl)
  takes_to DeviceDescriptorRead e = to_one ((two_modes m 2 3).0 e) (among_at _ 0 refl)
  takes_to PropertyValueRead e = to_one ((two_modes m 2 3).0 e) (among_at _ 1 refl)
  takes_to PropertyValueWrite e = to_one ((two_modes m 2 3).0 e) (among_at _ 2 refl)
  takes_to PropertyDescriptionRead e = to_one ((two_modes m 2 3).0 e) (among_at _ 3 refl)
  takes_to MemoryRead e = on_connection ((equal_is m 3).0 e) (among_at _ 0 refl)
  takes_to MemoryWrite e = on_connection ((equal_is m 3).0 e) (among_at _ 1 refl)
  takes_to MemoryBitWrite e = on_connection ((equal_is m 3).0 e) (among_at _ 2 refl)
  takes_to AuthorizeRequest e = on_connection ((equal_is m 3).0 e) (among_at _ 5 refl)
  takes_to KeyWrite e = on_connection ((equal_is m 3).0 e) (among_at _ 6 refl)
  takes_to Restart e = restart_takes (restart_to (eqb rules later) refl e)
  takes_to IndividualAddressResponse e = never e
  takes_to SerialNumberResponse e = never e
  takes_to DeviceDescriptorResponse e = never e
  takes_to PropertyValueResponse e = never e
  takes_to PropertyDescriptionResponse e = never e
  takes_to MemoryResponse e = never e
  takes_to AuthorizeResponse e = never e
  takes_to KeyResponse e = never e
  takes_to UserMemoryRead e = on_connection ((equal_is m 3).0 e) (among_at _ 3 refl)
  takes_to UserMemoryResponse e = never e
  takes_to UserMemoryWrite e = on_connection ((equal_is m 3).0 e) (among_at _ 4 refl)

  takes_from : {k : Service} → Takes rules k m → Taken k
  takes_from (to_group e h) = let t = (equal_is m 0).1 e in among_each Taken _ h (t, (t, (t, tt)))
  takes_from (to_all e h) = let t = (equal_is m 1).1 e in among_each Taken _ h (t, (t, (t, (t, tt))))
  takes_from (to_one e h) = let t = (two_modes m 2 3).1 e in among_each Taken _ h (t, (t, (t, (t, tt))))
  takes_from (on_connection e h) = let t = (equal_is m 3).1 e in among_each Taken _ h (t, (t, (t, (t, (t, (t, (t, (connected_restart (eqb rules later) e, tt))))))))
  takes_from (restarting e q h) = rw (h, eq-eqb rules later e) ((two_modes m 2 3).1 (inl q))

  -- THE TEST SAYS WHICH MODE TAKES A SERVICE
  pub takes_is : (k : Service) → (takes (reach_of rules k) m ≡ true) ↔ Takes rules k m
  takes_is k = (takes_to k, takes_from)

  pub restart_is : Takes rules Restart m ↔ ((m ≡ 3) ⊎ ((rules ≡ later) × (m ≡ 2)))
  restart_is = (λ t. restart_to (eqb rules later) refl (takes_from t), restart_takes)

-- the test of a mode that takes a service; no other mode than 0 to 3 takes one
pub taken : {rules m : ℕ} {k : Service} → Takes rules k m → takes (reach_of rules k) m ≡ true
taken {rules} {m} {k} t = (takes_is rules m k).1 t

pub low_mode : {rules m : ℕ} {k : Service} → Takes rules k m → m ≤ 3
low_mode (to_group e h) = omega arith
low_mode (to_all e h) = omega arith
low_mode (to_one (inl e) h) = omega arith
low_mode (to_one (inr e) h) = omega arith
low_mode (on_connection e h) = omega arith
low_mode (restarting e q h) = omega arith

-- some mode takes what reaches the device, and only that
some_mode : (r : Reach) → reaches r ≡ true → (m : ℕ) × (takes r m ≡ true)
some_mode Multicast e = (0, refl)
some_mode Broadcast e = (1, refl)
some_mode PointToPoint e = (2, refl)
some_mode Connected e = (3, refl)
some_mode Never e = never e

any_mode : (r : Reach) (m : ℕ) → takes r m ≡ true → reaches r ≡ true
any_mode Multicast m e = refl
any_mode Broadcast m e = refl
any_mode PointToPoint m e = refl
any_mode Connected m e = refl
any_mode Never m e = e

-- THE TEST SAYS WHICH SERVICE IS SERVED
pub served_is : (rules : ℕ) (k : Service) → (reaches (reach_of rules k) ≡ true) ↔ Served rules k
served_is rules k = (
  λ e. let h = some_mode (reach_of rules k) e in record { mode = h.0; takes = (takes_is rules h.0 k).0 h.1 },
  λ h. any_mode (reach_of rules k) h.mode ((takes_is rules h.mode k).1 h.takes),
)

-- THE RULES REACH EVERY SERVICE ALIKE, but for a restart
pub same_reach : (r r' : ℕ) (k : Service) → (reach_of r k ≡ reach_of r' k) ⊎ (k ≡ Restart)
same_reach r r' GroupValueRead = inl refl
same_reach r r' GroupValueResponse = inl refl
same_reach r r' GroupValueWrite = inl refl
same_reach r r' IndividualAddressWrite = inl refl
same_reach r r' IndividualAddressRead = inl refl
same_reach r r' SerialNumberRead = inl refl
same_reach r r' SerialNumberWrite = inl refl
same_reach r r' DeviceDescriptorRead = inl refl
same_reach r r' PropertyValueRead = inl refl
same_reach r r' PropertyValueWrite = inl refl
same_reach r r' PropertyDescriptionRead = inl refl
same_reach r r' MemoryRead = inl refl
same_reach r r' MemoryWrite = inl refl
same_reach r r' MemoryBitWrite = inl refl
same_reach r r' AuthorizeRequest = inl refl
same_reach r r' KeyWrite = inl refl
same_reach r r' Restart = inr refl
same_reach r r' IndividualAddressResponse = inl refl
same_reach r r' SerialNumberResponse = inl refl
same_reach r r' DeviceDescriptorResponse = inl refl
same_reach r r' PropertyValueResponse = inl refl
same_reach r r' PropertyDescriptionResponse = inl refl
same_reach r r' MemoryResponse = inl refl
same_reach r r' AuthorizeResponse = inl refl
same_reach r r' KeyResponse = inl refl
same_reach r r' UserMemoryRead = inl refl
same_reach r r' UserMemoryResponse = inl refl
same_reach r r' UserMemoryWrite = inl refl
