-- What the writer's tests tell of the frame.
use Rattle.std.proofs.Common.{◌≡◌, ℕ, Bool, true, false, length, Ok, Err, Result, arith}
use Rattle.commands.specs.declared.codes.Code.{Code}
use Rattle.commands.specs.declared.codes.Refusal.{Refusal}
use Rattle.commands.specs.declared.codes.Code.TheVariants.{WrongLength, NotAligned, WrongParameter}
use Rattle.frame.specs.Places.{stop}
use Rattle.commands.specs.Requests.{Request as Asked, kind_for, request_data, wrong_length, misaligned, wrong_parameter}
use Rattle.codec.specs.Writing.{unstopped}

-- three places stop with the same refusal whatever comes behind them
pub refused_alike : {X : Type 0} (a b c : Bool) (i j k : Code) (e : Refusal) (x : X)
    → ◌≡◌ {A = Result (Unit {0}) Refusal} (Err e) (stop a i (stop b j (stop c k (Ok tt))))
    → stop a i (stop b j (stop c k (Ok x))) ≡ Err e
refused_alike true b c i j k e x h = cc
refused_alike false true c i j k e x h = cc
refused_alike false false true i j k e x h = cc
refused_alike false false false i j k e x h = let z : ◌≡◌ {A = ℕ} 0 1 = cc in absurd (omega arith)

-- a request that is refused has no frame
pub refused : {X : Type 0} (q : Asked) (e : Refusal) (x : X) → ◌≡◌ {A = Result (Unit {0}) Refusal} (Err e) (unstopped q tt) → unstopped q x ≡ Err e
refused q e x h =
    refused_alike (wrong_length (kind_for q) (length (request_data q))) (misaligned q) (wrong_parameter q) WrongLength NotAligned WrongParameter e x h
