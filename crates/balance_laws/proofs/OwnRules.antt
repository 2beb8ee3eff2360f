-- A side's own newest commitment is at the point of its seed, whatever messages came.
use Rattle.std.proofs.Common.{◌≡◌, List, [], ◌∷◌, ◌++◌, length, Some, sym, ap, ◌∙◌, refl}
use Rattle.std.specs.Prelude.{slice_get}
use Rattle.channel.specs.declared.commitments.CommitmentState.{CommitmentState}
use Rattle.channel.specs.Recording.{own_newest, IsRecorded, SidesRecord}
use Rattle.channel.specs.States.{State}
use Rattle.safety.proofs.Lists.{some_is}
use Rattle.balance_laws.specs.Own.{LivedKeepOwnRules}

at_end : {X : Type 0} (xs : List X) (x : X) → slice_get (xs ++ x ∷ []) (length xs) ≡ Some x
at_end [] x = refl
at_end (y ∷ ys) x = at_end ys x

newest_is : (s : State) → IsRecorded s → (k : CommitmentState) → slice_get s.mine s.number ≡ Some k → k ≡ own_newest s
newest_is s r k there =
    some_is k (own_newest s) (sym there ∙ ap (λ (ks : List CommitmentState). slice_get ks s.number) r.mine
    ∙ ap (slice_get (r.older ++ own_newest s ∷ [])) (sym r.older_count) ∙ at_end r.older (own_newest s))

pub lived_keep_own_rules : SidesRecord → LivedKeepOwnRules
lived_keep_own_rules record_all tokens_of h lived apart =
    let r = record_all tokens_of h.state lived in
    record { point = λ k there. ap (λ (m : CommitmentState). m.point.bytes) (newest_is h.state r k there); apart = apart }
