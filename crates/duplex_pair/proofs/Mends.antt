-- A copy is mended by a put and the opening of its gate.
use Rattle.std.proofs.Common.{◌≡◌, inl, ℕ, Bool, true, false, List, Option, Result, Ok, Err, OnOk, sym, subst}
use Rattle.mas_types.specs.declared.ids.Dev.{Dev}
use Rattle.spool_plant.specs.View.{View, Disk, disk_now}
use Rattle.ckpt_copy.specs.Meanwhile.{Meanwhile}
use Rattle.ckpt_copy.specs.Moments.{meanwhile_weaker, meanwhile_then, meanwhile_end}
use Rattle.ckpt_copy.specs.Reading.{AllRead, EachReads}
use Rattle.duplex_pair.specs.Both.{Touched}

pub touched_is : (b : Bool) (P : Disk → Type 0) (was d : Disk) → b ≡ true → Touched b P was d → P d
touched_is true P was d is here = here
touched_is false P was d is here = absurd (cc)

pub touched_each : (b : Bool) (P : Disk → Type 0) (was d : Disk) → P was → Touched b P was d → P d
touched_each true P was d start here = here
touched_each false P was d start here = subst P (sym here) start

module _ (reads : List ℕ → Option (List ℕ)) (was next : List ℕ) (dev : Dev) (old mid new : View) where
  pub put_each : (alive : Bool) → alive ≡ true → Meanwhile dev (Touched alive (AllRead reads was) (disk_now old dev)) old mid → Meanwhile dev (EachReads reads was next) old mid
  put_each alive is m = meanwhile_weaker dev (Touched alive (AllRead reads was) (disk_now old dev)) (EachReads reads was next) old mid m
      (λ d here image im. inl (touched_is alive (AllRead reads was) (disk_now old dev) d is here image im))

  pub mend_each : (alive mid_alive : Bool) → alive ≡ true → Meanwhile dev (Touched alive (AllRead reads was) (disk_now old dev)) old mid
      → Meanwhile dev (Touched mid_alive (EachReads reads was next) (disk_now mid dev)) mid new → Meanwhile dev (EachReads reads was next) old new
  mend_each alive mid_alive is m then =
      let one = put_each alive is m in
      meanwhile_then dev (EachReads reads was next) old mid new one
      (meanwhile_weaker dev (Touched mid_alive (EachReads reads was next) (disk_now mid dev)) (EachReads reads was next) mid new then
      (λ d here. touched_each mid_alive (EachReads reads was next) (disk_now mid dev) d (meanwhile_end dev (EachReads reads was next) old mid one) here))

pub held_then : {T E A B : Type 0} (r : Result T E) → OnOk r A → (A → B) → OnOk r B
held_then (Ok x) a f = f a
held_then (Err x) a f = tt
