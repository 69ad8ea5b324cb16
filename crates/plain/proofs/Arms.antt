-- In an arm of a match the PDU, the service or the turn is known, and with it the data of the request.
use Rattle.octets.proofs.Kit.{ℕ, ◌+◌, ◌≤◌, ◌≡◌, refl, sym, ap, subst, ◌∙◌, Bool, true, false, cond, ◌&&◌, ltb, eqb, eq-eqb, ne_eqb, List, [], ◌∷◌, arith, length, drop, length-drop}
use Rattle.std.proofs.Common.{None}
use Rattle.octets.proofs.Truths.{and_is, equal_is}
use Rattle.pdu.specs.{declared.Service.TheVariants.Restart, Item.{Item, low, num, cap, duo, skip, Tail, none, Value, the}, Table.row_of, Pdus.{service_of, values_of}}
use Rattle.pdu.specs.{Rules.{under, suits, head_of}, Read.{data_at, data_of}, declared.{Service.Service, Pdu.Pdu}}
use Rattle.pdu.{specs.declared.Pdu.TheVariants.{PropertyValueWrite, MemoryWrite, MemoryBitWrite, UserMemoryWrite}, proofs.promises.Readings.{Reading, reading}}
use Rattle.judge.specs.{declared.Reach.TheVariants.{PointToPoint, Connected}, Modes.{reach_of, takes}, Decisions.refused, Judge.decide_of, declared.Turn.TheVariants.Stays}
use Rattle.parts.specs.declared.Parts.{Parts}
use Rattle.device.proofs.due.Given.{write_data, memory_data, user_data, bits_data}
use Rattle.plain_services.{specs.{declared.Reply.Reply, Steps.{Gives, Agrees, Serves}}, proofs.Agreed.agreed}
use Rattle.plain.specs.Carrying.{ReadAs}

-- where the row of a service has no data, a request has none
last_test : (is : List Item) (x : List Value) (t : Bool) → under is x t ≡ true → t ≡ true
last_test [] x t e = e
last_test (low f m ∷ is) x t e = last_test is x t ((and_is (ltb (the x f) m) (under is x t)).0 e).1
last_test (num f w ∷ is) x t e = last_test is x t e
last_test (cap f w m ∷ is) x t e = last_test is x t ((and_is (ltb (the x f) m) (under is x t)).0 e).1
last_test (duo f g ∷ is) x t e = last_test is x t ((and_is (ltb (the x g) 4096) (under is x t)).0 ((and_is (ltb (the x f) 16) (ltb (the x g) 4096 && under is x t)).0 e).1).1
last_test (skip w ∷ is) x t e = last_test is x t e

nothing : (l : List ℕ) → length l ≡ 0 → l ≡ []
nothing [] e = refl
nothing (x ∷ l) e = absurd (omega arith)

no_data : (p : Pdu) (a : List ℕ) → (row_of (service_of p)).tail ≡ none → Reading a p → data_of p a ≡ []
unfolding data_of
no_data p a e r =
    let h : head_of (row_of (service_of p)) ≡ data_at p = refl in
    let t = last_test (row_of (service_of p)).items (values_of p) (suits (row_of (service_of p)).tail (data_at p) (values_of p) (length a)) r.fit in
    let q : length a ≡ data_at p = (equal_is (length a) (data_at p)).0 (subst (λ (y : Tail). suits y (data_at p) (values_of p) (length a) ≡ true) e t) in
    nothing (drop (data_at p) a) (length-drop (data_at p) a ∙ omega (arith, q))

read_as : (p : Pdu) (d : List ℕ) (x : ReadAs p d) → Reading x.apdu p
read_as p d x = reading x.apdu p x.reads

-- the arms
module _ (u : Parts) (level group : ℕ) (d : List ℕ) (r : Reply) (p q : Pdu) (e : p ≡ q) where
  pub with_data : Serves u d (λ s. decide_of s level group d q) r → Serves u d (λ s. decide_of s level group d p) r
  with_data g = subst (λ (x : Pdu). Serves u d (λ s. decide_of s level group d x) r) (sym e) g

  module _ (x : ReadAs p d) where
    own : ReadAs q d
    own = subst (λ (y : Pdu). ReadAs y d) e x

    pub without_data :
        (row_of (service_of q)).tail ≡ none → Serves u [] (λ s. decide_of s level group [] q) r → Serves u d (λ s. decide_of s level group d p) r
    without_data t g =
        let z : d ≡ [] = own.given ∙ no_data q own.apdu t (read_as q d own) in
        with_data (subst (λ (y : List ℕ). Serves u y (λ s. decide_of s level group y q) r) (sym z) g)

  pub is_answer : ((s : List ℕ) → decide_of s level group d q ≡ refused 8) → Gives r 8 u Stays None [] → Serves u d (λ s. decide_of s level group d p) r
  is_answer f g = with_data record { agrees = λ s ok o t. subst (λ k. Agrees s d k r) (sym (f s)) (agreed (refused 8) g t) }

module _ {p : Pdu} {d : List ℕ} (x : ReadAs p d) where
  own_of : (q : Pdu) → p ≡ q → ReadAs q d
  own_of q e = subst (λ (y : Pdu). ReadAs y d) e x

  pub short_data : (object id n t : ℕ) → p ≡ PropertyValueWrite object id n t → length d ≤ 14
  short_data object id n t e =
      let y = own_of _ e in omega (arith, ap length y.given, write_data y.apdu object id n t (read_as _ d y))

  pub memory_long : (n address : ℕ) → p ≡ MemoryWrite n address → length d ≡ n
  memory_long n address e = let y = own_of _ e in ap length y.given ∙ memory_data y.apdu n address (read_as _ d y)

  pub user_long : (n address : ℕ) → p ≡ UserMemoryWrite n address → length d ≡ n
  user_long n address e = let y = own_of _ e in ap length y.given ∙ user_data y.apdu n address (read_as _ d y)

  pub bits_long : (n address : ℕ) → p ≡ MemoryBitWrite n address → length d ≡ n + n
  bits_long n address e = let y = own_of _ e in ap length y.given ∙ bits_data y.apdu n address (read_as _ d y)

-- the modes
pub via_taken : (k j : Service) (n m : ℕ) (r : Bool) → k ≡ j → r ≡ takes (reach_of n j) m → r ≡ takes (reach_of n k) m
via_taken k j n m r e h = h ∙ ap (λ (x : Service). takes (reach_of n x) m) (sym e)

-- the modes of a restart go by the rules: mode 3, or 2 under rules 1
module _ (rules mode : ℕ) where
  restart_by : (r b : Bool) → r ≡ b → ((x : Bool) → eqb rules 1 ≡ x → b ≡ takes (cond x PointToPoint Connected) mode) → r ≡ takes (reach_of rules Restart) mode
  restart_by r b e f = e ∙ f (eqb rules 1) refl

  pub restart_connected : mode ≡ 3 → eqb mode 3 ≡ takes (reach_of rules Restart) mode
  restart_connected e = restart_by _ true (eq-eqb mode 3 e) go
    where
      go : (x : Bool) → eqb rules 1 ≡ x → true ≡ takes (cond x PointToPoint Connected) mode
      go true h = rw e refl
      go false h = rw e refl

  module _ (a : mode ≡ 3 → ⊥) where
    pub restart_without : mode ≡ 2 → eqb rules 1 ≡ takes (reach_of rules Restart) mode
    restart_without e = restart_by _ (eqb rules 1) refl go
      where
        go : (x : Bool) → eqb rules 1 ≡ x → eqb rules 1 ≡ takes (cond x PointToPoint Connected) mode
        go true h = h ∙ rw e refl
        go false h = h ∙ sym (ne_eqb mode 3 a)

    pub restart_never : (mode ≡ 2 → ⊥) → eqb mode 2 ≡ takes (reach_of rules Restart) mode
    restart_never e = restart_by _ false (ne_eqb mode 2 e) go
      where
        go : (x : Bool) → eqb rules 1 ≡ x → false ≡ takes (cond x PointToPoint Connected) mode
        go true h = sym (simp (ne_eqb mode 2 e, ne_eqb mode 3 a))
        go false h = sym (ne_eqb mode 3 a)
