-- WHAT A READ SHOWS OF A PROPERTY WAS WRITTEN: of ours, and so of any device that does what is due.
use Rattle.octets.proofs.Kit.{ℕ, ◌+◌, ◌*◌, ◌-◌, ◌<◌, ◌≤◌, ◌≡◌, refl, sym, ap, subst, ◌∙◌, true, List, length, get_or, take, drop, length-take, length-drop, get_or-take, get_or-drop}
use Rattle.octets.proofs.Kit.{mul-le-mul_right, arith}
use Rattle.std.proofs.Common.{Ok}
use Rattle.sheet.{specs.{Kind.properties, Layout.◌of◌, Entries.{entry, body_at}, Places.PropertyWith}, proofs.alike.Sames.property_same}
use Rattle.sheet.specs.Property as property
use Rattle.pdu.{specs.{Read.read_pdu, Write.encoded, declared.Pdu.TheVariants.{PropertyValueRead, PropertyValueResponse}}, proofs.promises.Readings.reading}
use Rattle.judge.{specs.{Session.level_in, declared.Decision.Decision}, proofs.PropertyCases.{Among, property_read_cases}}
use Rattle.device.specs.{Octets.Octets, Step.{Step, step_by}, Events.{Effect, State, request_of}, Asked.{Asked, Reads}, Demand2.done, Due.asked}
use Rattle.device.proofs.{leaves.Accepted.{count_below, elements_within}, due.{Properly.{unkeyed, read_id}, Stepped.step_read, WasReady.carried}}
use Rattle.device.specs.Asked as ask
use Rattle.events.specs.Events.{Event, request, event_of}
use Rattle.history.specs.{Location.{body, Place, of_body}, History.{First, content}, Keeps.{Device, state_after, Begins, AllOctets}, Rightful.{Rightful, ours}}
use Rattle.history.specs.Shown.{element_of, given, Shows, ShownWasWritten}
use Rattle.history.proofs.{steps.CountNow.count_now, promises.Counted.counted_given, heard.Framed.is_same, steps.Invariant.{Inv, fine, now}, promises.Keep.ours_after}
use Rattle.history.proofs.{promises.OneDevice.one_device, stored.PropertyRun.{elements_fit, entry_for_lem}}

module _ (f : First) (b : Begins f) (h : List Event) (x : State) (inv : Inv f h x) (object id n s i : ℕ) (low : 1 ≤ s)
    (is : PropertyWith f.sheet object id i) (there : PropertyWith x.sheet object id i)
    (a : Among n s (property.count of entry x.sheet properties i)) where
  abbrev E : List ℕ
  E = entry x.sheet properties i

  abbrev Z : ℕ
  Z = property.element of E

  abbrev O : ℕ
  O = property.offset of E + (s - 1) * Z

  abbrev Bytes : List ℕ
  Bytes = take (n * Z) (drop O x.sheet)

  size_same : Z ≡ element_of f object id
  size_same =
      property_same inv.means.agree i property.element is.there (omega arith) (omega arith)
      ∙ ap (λ (e : List ℕ). property.element of e) (sym (entry_for_lem (fine inv b) is))

  high : s + n - 1 ≤ property.maximum of E
  high = omega (arith, a.end, count_below (now inv b) i there.there)

  length_bytes : length Bytes ≡ n * Z
  length_bytes =
      simp (length-take, length-drop) (omega (arith, elements_within (now inv b) i there.there n s low high))

  -- each of the bytes is counted, and stands where the history has it
  counted : (k : ℕ) → k < n * Z → given f object id ((s - 1) * element_of f object id + k) h ≡ true
  counted k l =
      let c = count_now f b h x inv is in
      let u : s - 1 + n ≤ property.count of E = omega (arith, a.end, a.some) in
      counted_given f object id _ h (rw (c, ← size_same) (omega (arith, mul-le-mul_right Z u)))

  stands : (k : ℕ) → k < n * Z → get_or x.sheet (O + k) 0 ≡ content f h (body object id ((s - 1) * element_of f object id + k))
  unfolding body_at
  stands k l =
      let o = property_same inv.means.agree i property.offset is.there (omega arith) (omega arith) in
      let z = property_same inv.means.agree i property.element is.there (omega arith) (omega arith) in
      let m = property_same inv.means.agree i property.maximum is.there (omega arith) (omega arith) in
      let fit = elements_fit (s - 1) n Z (property.maximum of E) (omega (arith, high)) in
      let q : (s - 1) * Z + k < property.element of entry f.sheet properties i * property.maximum of entry f.sheet properties i =
      rw (← z, ← m) (omega arith) in
      let p : Place f.sheet (body object id ((s - 1) * Z + k)) (O + k) =
      of_body {j = (s - 1) * Z + k} {p = O + k} i is q (omega (arith, o)) in
      inv.means.holds _ _ (subst (λ (w : ℕ). Place f.sheet (body object id ((s - 1) * w + k)) (O + k)) size_same p)

  shown : (r : Effect) → r.answer ≡ encoded (PropertyValueResponse object id n s) Bytes → Shows f h object id n s r
  shown r e =
      record {
        bytes = Bytes;
        answer = e;
        long = length_bytes ∙ ap (λ (m : ℕ). n * m) size_same;
        is_given = λ k l. counted k (omega (arith, length_bytes));
        holds = λ k l.
            let m : k < n * Z = omega (arith, length_bytes) in
            get_or-take (n * Z) (drop O x.sheet) k 0 m ∙ get_or-drop O x.sheet k 0 ∙ stands k m;
      }

module _ (f : First) (h : List Event) (b : Begins f) (all : AllOctets h) (mode c g : ℕ) (a out : List ℕ) (octets : Octets a)
    (object id n s : ℕ) (reads : read_pdu a ≡ Ok (PropertyValueRead object id n s)) (low : 1 ≤ s)
    (ok : (event_of (state_after ours f h) (request mode c g a out)).outcome ≡ 0) where
  abbrev X : State
  X = state_after ours f h

  abbrev R : Asked
  R = asked X mode c g a out

  inv' : Inv f h X
  inv' = ours_after f b h all

  carried_out : (done R).outcome ≡ 0
  unfolding event_of request_of
  carried_out = ok

  was : Reads R (PropertyValueRead object id n s)
  was = carried R _ reads (omega (arith, carried_out))

  shows : Shows f h object id n s (event_of X (request mode c g a out))
  unfolding event_of request_of step_by
  shows =
      property_read_cases X.sheet (level_in R.session mode) object id n s
      (λ (q : Decision). step_by X.sheet R.session (ask.given R (PropertyValueRead object id n s)) q ≡ done R → Shows f h object id n s (event_of X (request mode c g a out)))
      (λ i key l z o p. absurd (omega arith))
      (λ i key l m z p.
      let there = unkeyed R object id i inv'.means.octets (read_id a octets object id n s (reading a _ reads)) key in
      shown f b h X inv' object id n s i low (is_same inv'.means.agree there) there m _ (ap (λ (t : Step). t.answer) (sym p)))
      (λ p. let z : ◌≡◌ {A = ℕ} 11 0 = ap (λ (t : Step). t.outcome) p ∙ carried_out in absurd (omega arith))
      (step_read R _ was _ refl)

-- OURS
pub ours_shown : ShownWasWritten ours
ours_shown f h b all mode c g a out octets object id n s reads low ok =
    shows f h b all mode c g a out octets object id n s reads low ok

-- ANY DEVICE THAT DOES WHAT IS DUE
pub shown_was_written : (step : Device) → ((f : First) (h : List Event) → Rightful (step f h)) → ShownWasWritten step
shown_was_written step rightful f h b all mode c g a out octets object id n s reads low ok =
    let e = one_device step rightful f b h all (request mode c g a out) octets in
    rw e (shows f h b all mode c g a out octets object id n s reads low (rw e at ok))
