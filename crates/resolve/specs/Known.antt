-- What is known of a channel's commitments.
use Rattle.std.specs.Prelude.{◌≡◌, ℕ, Bool, true, nat_lt, if◌then◌else◌, List, Option, Some, None, option_map}
use Rattle.terms.specs.declared.sides.Side.{Side}
use Rattle.terms.specs.declared.agreement.Terms.{Terms}
use Rattle.terms.specs.declared.views.View.{View}
use Rattle.commit.specs.Commitments.{Contents}
use Rattle.penalty.specs.Paying.{refusal_of as view_refusal_of}
use Rattle.resolve.specs.declared.errors.KnownError.{KnownError}
use Rattle.resolve.specs.declared.errors.KnownError.TheVariants.{NoMemory, BadSignature, NumberTooLarge}
use Rattle.resolve.specs.declared.numbers.TheConstants.{MAX_NUMBER}
use Rattle.penalty.specs.declared.states.RevokedState.{RevokedState}
use Rattle.resolve.specs.declared.known.SignedCommitment.{SignedCommitment}
use Rattle.resolve.specs.declared.known.RevokedCommitment.{RevokedCommitment}
use Rattle.resolve.specs.Refusals.{refusal_by}
use Rattle.resolve.specs.Signed.{IsCommitmentToken, AreHtlcTokens}

-- the first reason why there is no known commitment: no transaction can carry its number, or no commitment of the terms can pay its
-- view
abbrev pub refusal_of : Terms → View → ℕ → Option KnownError
refusal_of terms view number = if nat_lt MAX_NUMBER number then Some NumberTooLarge else option_map refusal_by (view_refusal_of terms view)

-- a refusal is that reason, or, where there is none, that memory ran out
abbrev pub IsNamed : Option KnownError → KnownError → Type 0
IsNamed None e = e ≡ NoMemory
IsNamed (Some r) e = e ≡ r

-- the owner's commitment with these tokens
pub record HasTokens (terms : Terms) (owner : Side) (c : Contents) (token : List ℕ) (htlc_tokens : List (List ℕ)) (s : SignedCommitment) : Type 0 where
  pub commitment_is : s.commitment ≡ c
  pub terms_are : s.terms ≡ terms
  pub owner_is : s.owner ≡ owner
  pub token_is : s.token ≡ token
  pub htlc_tokens_are : s.htlc_tokens ≡ htlc_tokens

-- tokens are refused as BadSignature if they are not the right ones
abbrev pub IsTokenRefusal : Terms → Side → Contents → List ℕ → List (List ℕ) → KnownError → Type 0
IsTokenRefusal terms owner c token htlc_tokens NoMemory = Unit {0}
IsTokenRefusal terms owner c token htlc_tokens BadSignature = ¬ (IsCommitmentToken terms owner c token × AreHtlcTokens c htlc_tokens)
IsTokenRefusal terms owner c token htlc_tokens e = ⊥

-- a revoked state, and whether its penalties are kept
pub record HasState (state : RevokedState) (is_kept : Bool) (r : RevokedCommitment) : Type 0 where
  pub state_is : r.state ≡ state
  pub kept : r.is_kept ≡ is_kept

-- the same one, with its penalties kept
abbrev pub as_kept : RevokedCommitment → RevokedCommitment
as_kept r = record { state = r.state; id = r.id; is_kept = true; id_is = r.id_is }
