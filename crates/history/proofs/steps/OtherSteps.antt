-- The individual address, and a restart.
use Rattle.octets.proofs.Kit.{ℕ, ◌+◌, ◌*◌, ◌/◌, ◌%◌, ◌<◌, ◌≡◌, refl, sym, ap₂, ◌∙◌, inl, Bool, true, false, List, ◌∷◌, arith, eq-eqb, ne_eqb}
use Rattle.octets.{specs.{Bytes.bytes_of, Splice.splice}, proofs.{Numbers.num_same, Truths.never}}
use Rattle.sheet.specs.Layout.{◌of◌}
use Rattle.sheet.specs.Head as head
use Rattle.pdu.specs.declared.Pdu.{Pdu, TheVariants.{IndividualAddressWrite, SerialNumberWrite, Restart}}
use Rattle.device.specs.{Octets.Octets, Sessions.closed, Events.State, Asked.{Asked, Reads}, Due.asked, AddressesDue.Programming}
use Rattle.events.specs.Events.{Event}
use Rattle.history.specs.{Wish.{Wish, Other, other, address, address_for, restart, wish_of, asks}, History.{First, permitted}, Others.{programming, individual, new_address, new_value}}
use Rattle.history.specs.Keeps.{Begins, Still}
use Rattle.history.proofs.{spans.RequestFields.{address_field, serial_address}, heard.Hearing.asks_is, promises.Said.said, steps.Invariant.{Inv, fine}}
use Rattle.history.proofs.{stored.Means.{store_flags, store_address}, places.Standing.{no_head, past_contents}, steps.Requests.{ends, E, Ok, Done, opens_new, levels_new}}
use Rattle.history.proofs.steps.{Requests.{sessions_same, programs_same, programs_new, addresses_same, addresses_new, values_same, unwritten, stayed, left, aside}, Writes.heard_now}

module _ (f : First) (b : Begins f) (h : List Event) (x : State) (inv : Inv f h x) (mode c g : ℕ) (a out : List ℕ) where
  abbrev R : Asked
  R = asked x mode c g a out

  -- the serial number never changes
  serial_same : head.serial of x.sheet ≡ head.serial of f.sheet
  serial_same = num_same x.sheet f.sheet (head.serial).at (head.serial).at (head.serial).width (λ i l. inv.means.still ((head.serial).at + i) (still ((head.serial).at + i) (omega arith)))
    where
      still : (p : ℕ) → p < 12 → Still f.sheet p
      still p l =
          record {
            inside = omega (arith, (fine inv b).framed);
            location = λ y. no_head (fine inv b) (omega arith) (inl (omega arith));
            group = λ i q. omega (arith, past_contents (fine inv b) q);
            address = inl (omega arith);
            flags = omega arith;
          }

  -- a request that may change the address, and no group value
  module _ (p : Pdu) (w : Other) (t : wish_of p ≡ other w) (q : (n : List ℕ) (k : ℕ) (d : List ℕ) (j v : ℕ) → new_value n k d j v (other w) ≡ v) (r : Reads R p) where
    abbrev W : Wish
    W = other w

    abbrev New : ℕ
    New = new_address (programming f h) (head.serial of f.sheet) (individual f h) W

    e : asks a ≡ W
    e = asks_is a p r.reads ∙ t

    new_is : individual f (E f h mode c g a out ∷ h) ≡ New
    new_is =
        addresses_new f h mode c g a out W e (heard_now f b h x inv mode c g a out p r (λ z. let k = sym t ∙ z in let m : ◌≡◌ {A = ℕ} 0 1 = cc in omega arith))

    none : permitted f h (E f h mode c g a out) ≡ false
    none = unwritten f h mode c g a out W e (λ z. z)

    address_new :
        (k : ℕ) (answer : List ℕ) (new : ℕ) → new < 65536 → New ≡ new →
        Done f h mode c g a out
        (ends R k answer (splice x.sheet (head.address).at (bytes_of 2 new)))
    address_new k answer new low is =
        aside f h mode c g a out x inv W e (λ z. z) _
        (stayed f h mode c g a out x inv (sessions_same f h mode c g a out W e refl (λ k t l. refl)) k answer _)
        (store_address (fine inv b) inv.means new low)
        (sym (new_is ∙ is))
        (sym (programs_same f h mode c g a out W e refl))
        (λ i j l. sym (values_same f h mode c g a out W e q i j))

    address_left :
        (k : ℕ) (answer : List ℕ) → New ≡ individual f h →
        Done f h mode c g a out (ends R k answer x.sheet)
    address_left k answer is =
        left f h mode c g a out x inv
        (record {
          sessions = sessions_same f h mode c g a out W e refl (λ k t l. refl);
          addresses = new_is ∙ is;
          programs = programs_same f h mode c g a out W e refl;
          values = λ i j l. values_same f h mode c g a out W e q i j;
        })
        none k answer (λ z. rw e at z.writing)

  -- THE ADDRESS IN PROGRAMMING MODE
  programming_is : head.programming x.sheet ≡ programming f h
  programming_is = inv.means.programming

  pub address_written :
      (v : ℕ) → Octets a → Reads R (IndividualAddressWrite v) → Programming R → (k : ℕ) (answer : List ℕ) →
      Done f h mode c g a out
      (ends R k answer (splice x.sheet (head.address).at (bytes_of 2 v)))
  address_written v octets r on k answer =
      address_new (IndividualAddressWrite v) (address v) refl (λ n k d j v. refl) r k answer v (address_field a octets r.reads)
      (rw (eq-eqb (programming f h) 1 (sym programming_is ∙ on)))

  pub address_unwritten :
      (v : ℕ) → Reads R (IndividualAddressWrite v) → (Programming R → ⊥) → (k : ℕ) (answer : List ℕ) →
      Done f h mode c g a out (ends R k answer x.sheet)
  address_unwritten v r off k answer =
      address_left (IndividualAddressWrite v) (address v) refl (λ n k d j v. refl) r k answer
      (rw (ne_eqb (programming f h) 1 (λ z. off (programming_is ∙ z))))

  -- AND BY THE SERIAL NUMBER
  pub serial_written :
      (n v : ℕ) → Octets a → Reads R (SerialNumberWrite n v) → n ≡ head.serial of x.sheet → (k : ℕ) (answer : List ℕ) →
      Done f h mode c g a out
      (ends R k answer (splice x.sheet (head.address).at (bytes_of 2 v)))
  serial_written n v octets r on k answer =
      address_new (SerialNumberWrite n v) (address_for n v) refl (λ n k d j v. refl) r k answer v (serial_address a octets r.reads)
      (rw (eq-eqb n (head.serial of f.sheet) (on ∙ serial_same)))

  pub serial_unwritten :
      (n v : ℕ) → Reads R (SerialNumberWrite n v) → (n ≡ head.serial of x.sheet → ⊥) → (k : ℕ) (answer : List ℕ) →
      Done f h mode c g a out (ends R k answer x.sheet)
  serial_unwritten n v r off k answer =
      address_left (SerialNumberWrite n v) (address_for n v) refl (λ n k d j v. refl) r k answer
      (rw (ne_eqb n (head.serial of f.sheet) (λ z. off (z ∙ sym serial_same))))

  -- A RESTART
  pub restarted :
      Reads R Restart → (k : ℕ) (answer : List ℕ) →
      Done f h mode c g a out
      (record {
        outcome = k;
        answer = answer;
        session = closed;
        sheet = splice x.sheet (head.flags).at (bytes_of 1 (head.verify x.sheet * 2));
        restarts = true;
      })
  restarted r k answer =
      aside f h mode c g a out x inv restart asked_so (λ z. z) _
      (record { closes = λ t d. closed_so d; own = λ t. never (sym t); others = λ t. never (sym t) })
      (store_flags (fine inv b) inv.means v (omega arith) verify)
      (sym (addresses_same f h mode c g a out restart asked_so (λ m s v. refl)))
      (let z : v % 2 ≡ 0 = omega arith in z ∙ sym (programs_new f h mode c g a out restart asked_so ok))
      (λ i j l. sym (values_same f h mode c g a out restart asked_so (λ n k d j v. refl) i j))
    where
      v : ℕ
      v = head.verify x.sheet * 2

      asked_so : asks a ≡ restart
      asked_so = asks_is a Restart r.reads

      ok : Ok f h mode c g a out ≡ true
      ok = heard_now f b h x inv mode c g a out Restart r (λ q. let z : ◌≡◌ {A = ℕ} 0 1 = cc in omega arith)

      closed_so : (d : ℕ) → closed ≡ said f (E f h mode c g a out ∷ h) d
      closed_so d =
          sym
          (ap₂ (λ (t : Bool) (l : ℕ). record { opened = t; level = l }) (opens_new f h mode c g a out restart asked_so ok d)
          (levels_new f h mode c g a out restart asked_so ok d))

      verify : v / 2 % 2 ≡ head.verify f.sheet
      verify = let z : v / 2 % 2 ≡ head.verify x.sheet = omega arith in z ∙ inv.means.verify
