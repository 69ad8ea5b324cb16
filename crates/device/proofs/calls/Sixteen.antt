-- Where anything is stored the sheet is accepted, and so has at most 16,384 bytes: the numbers of a run have 16 bits.
use Rattle.octets.proofs.Kit.{ℕ, ◌≤◌, List, length, arith}
use Rattle.sheet.proofs.rules.Good.{good}
use Rattle.judge.specs.{declared.{Session.Session, Store.Store, Decision.Decision}, Session.level_in, Judge.{judge_of, decide_of}}
use Rattle.judge.specs.declared.Store.TheVariants as store
use Rattle.device.specs.{Asked.{Asked, given}, Safe.Narrow}
use Rattle.device.proofs.due.RequestCases.{request_cases}

any_narrow : (n : ℕ) (k : Store) → n ≤ 16384 → Narrow n k
any_narrow n store.Nothing h = tt
any_narrow n (store.Number at w x) h = h
any_narrow n (store.Data zeros at) h = h
any_narrow n (store.Bits at m) h = h
any_narrow n (store.Fill at m b) h = h

pub narrow : (room : ℕ) (s : List ℕ) (q : Session) (mode group : ℕ) (a : List ℕ)
    → Narrow (length s) (judge_of room s q mode group a).first × Narrow (length s) (judge_of room s q mode group a).second
narrow room s q mode group a =
    let x : Asked = record { room = room; sheet = s; session = q; mode = mode; group = group; apdu = a } in
    request_cases x (λ (k : Decision). Narrow (length s) k.first × Narrow (length s) k.second)
    (λ k r n v t. (tt, tt)) (λ r f. (tt, tt)) (λ k r n t e. (tt, tt))
    (λ p r.
    let h : length s ≤ 16384 = omega (arith, (good s r.ready.sheet).framed) in
    let k : Decision = decide_of s (level_in q mode) group (given x p) p in
    (any_narrow (length s) k.first h, any_narrow (length s) k.second h))
    (λ n r. (tt, tt))
