-- The hashes of the scripts that inputs of the chains show. Each program has its script's hash behind two bytes.
use Rattle.std.proofs.Common.{◌≡◌, drop, refl}
use Rattle.sha2.specs.Sha256.{sha256, digest_bytes, hash_after, compress, rounds, schedule, first_words}
use Rattle.chain_examples.proofs.Recorded.{first_funding, first_funding_program, second_funding, second_funding_program, first_newest_htlc_0, first_newest_htlc_0_program, first_newest_htlc_1, first_newest_htlc_1_program, second_opened_delayed, second_opened_delayed_program, second_opened_htlc_1, second_opened_htlc_1_program}

pub first_funding_hashed : sha256 first_funding ≡ drop 2 first_funding_program
unfolding sha256 digest_bytes hash_after compress rounds schedule first_words
first_funding_hashed = refl

pub second_funding_hashed : sha256 second_funding ≡ drop 2 second_funding_program
unfolding sha256 digest_bytes hash_after compress rounds schedule first_words
second_funding_hashed = refl

pub first_newest_htlc_0_hashed : sha256 first_newest_htlc_0 ≡ drop 2 first_newest_htlc_0_program
unfolding sha256 digest_bytes hash_after compress rounds schedule first_words
first_newest_htlc_0_hashed = refl

pub first_newest_htlc_1_hashed : sha256 first_newest_htlc_1 ≡ drop 2 first_newest_htlc_1_program
unfolding sha256 digest_bytes hash_after compress rounds schedule first_words
first_newest_htlc_1_hashed = refl

pub second_opened_delayed_hashed : sha256 second_opened_delayed ≡ drop 2 second_opened_delayed_program
unfolding sha256 digest_bytes hash_after compress rounds schedule first_words
second_opened_delayed_hashed = refl

pub second_opened_htlc_1_hashed : sha256 second_opened_htlc_1 ≡ drop 2 second_opened_htlc_1_program
unfolding sha256 digest_bytes hash_after compress rounds schedule first_words
second_opened_htlc_1_hashed = refl
