-- What an answer tells of the test that it hangs on.
use Rattle.std.proofs.Common.{◌≡◌, Bool, true, false, cond, Some, None, Ok, Err, Option, Result, refl}
use Rattle.std.proofs.lemmas.Option.{none-some}
use Rattle.std.specs.Option.{ok_or}

pub none_when : {X : Type 0} (t : Bool) (y : X) → None ≡ cond t (Some y) None → t ≡ false
none_when true y e = absurd (none-some y e)
none_when false y e = refl

-- what a result tells of the option that it was made of
module _ {X E : Type 0} where
  pub ok_when : (o : Option X) (r : Result X E) (e : E) (x : X) → r ≡ ok_or o e → r ≡ Ok x → Some x ≡ o
  ok_when None r e x made is = cc
  ok_when (Some y) r e x made is = cc

  pub err_when : (o : Option X) (r : Result X E) (e x : E) → r ≡ ok_or o e → r ≡ Err x → (None ≡ o) × (x ≡ e)
  err_when None r e x made is = (refl, cc)
  err_when (Some y) r e x made is = (cc, cc)
