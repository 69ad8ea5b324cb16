-- What a write to memory answers is what a read then answers.
use Rattle.octets.proofs.Kit.{ℕ, ◌≡◌, sym, ap, ◌∙◌, arith}
use Rattle.octets.specs.Splice.{splice}
use Rattle.sheet.{specs.Agree.Agree, proofs.{rules.Good.{Good, good}, alike.SameLookups.ranged_same, promises.{Agrees.agree_sym, Runs.{range_once, range_within}}}}
use Rattle.sheet.specs.Head as head
use Rattle.pdu.specs.Write.{encoded}
use Rattle.judge.{specs.{declared.Decision.Decision, Session.level_in}, proofs.MemoryCases.{Permits, range_in, change_cases}}
use Rattle.device.specs.{Step.{Step, step_by}, Asked.{Asked, Reads, given, part}, MemoryDue.{Write, into, writing, reading, response, most_in, MemoryReadable}, Demand2.done}
use Rattle.device.specs.Next.{SameAnswer}
use Rattle.device.proofs.{leaves.Stores.stored_back, due.{OpenRanges.{over_read, opened}, Stepped.step_read, Changes.{Change, change_of_lem, from, only_verified}}}
use Rattle.device.proofs.{due.RightMemory.only_memory_read, leaves.Stays.request_agrees}

module _ (x y : Asked) (w : Write) (n address : ℕ) (r : Reads x (writing w n address)) (u : Reads y (reading (into w) n address))
    (new : y.sheet ≡ (done x).sheet) (z : ℕ) (may : MemoryReadable y (into w) n address z) where
  abbrev c : Change x w n address
  c = change_of_lem x w n address r

  ok : Good x.sheet
  ok = good x.sheet r.ready.sheet

  agree : Agree x.sheet y.sheet
  agree = rw new (request_agrees x r.ready.sheet)

  -- a place that may be written, o
  module _ (o : ℕ) (q : Permits c.access (most_in w) x.sheet (into w) (level_in x.session x.mode) n address o) where
    -- is the place that is read
    same : o ≡ z
    same = (range_once ok (range_in ok q) (ranged_same (agree_sym agree) (opened over_read (good y.sheet u.ready.sheet) may).1)).0

    bytes_found : (done x).sheet ≡ splice x.sheet o (c.left o) → part y.sheet z n ≡ c.left o
    bytes_found e = rw (← same, new, e) (stored_back x.sheet (c.left o) o n (c.long o) (range_within ok (range_in ok q)))

    found : head.verify x.sheet ≡ 1 → SameAnswer x y
    found v =
        let a = only_verified x w n address r o (from x w n address r o q) v in
        let b = only_memory_read y (into w) n address u z may in
        record {
          outcome = sym (ap (λ (t : Step). t.outcome) b);
          answer =
              sym (ap (λ (t : Step). t.answer) b)
              ∙ ap (encoded (response (into w) n address)) (bytes_found (sym (ap (λ (t : Step). t.sheet) a)))
              ∙ ap (λ (t : Step). t.answer) a;
        }

  -- THE SAME ANSWER
  pub memory_same_answer : (done x).outcome ≡ 0 → SameAnswer x y
  unfolding step_by
  memory_same_answer out =
      change_cases c.access (most_in w) c.new x.sheet (into w) (level_in x.session x.mode) n address
      (λ (k : Decision). step_by x.sheet x.session (given x (writing w n address)) k ≡ done x → SameAnswer x y)
      (λ o q v e. found o q v)
      (λ o q v e. let z : ◌≡◌ {A = ℕ} 1 0 = ap (λ (t : Step). t.outcome) e ∙ out in absurd (omega arith))
      (λ v e. let z : ◌≡◌ {A = ℕ} 11 0 = ap (λ (t : Step). t.outcome) e ∙ out in absurd (omega arith))
      (λ v e. let z : ◌≡◌ {A = ℕ} 12 0 = ap (λ (t : Step). t.outcome) e ∙ out in absurd (omega arith))
      (step_read x _ r _ c.decides)
