-- The words that the programs print are the names of T.125: each number of messages/specs/Named by its name, computed.
use Rattle.std.specs.Prelude.{ℕ, ◌+◌, ◌≡◌, refl, Bool, true, ◌&&◌, List, [], ◌∷◌, get_or}
use Prim.Native.String.{String}
use Rattle.std.proofs.Math.Option.{none}
use lib.Text.{eqt}
use Rattle.codec_table.specs.Named as n
use Rattle.codec_table.specs.Named.{fields}
use Rattle.explain_words.specs.Words.{words, result_words, diagnostic_words, reason_words, status_words, message_words}

abbrev claims : List (ℕ × String)
claims =
    (result_words + n.successful, "successful") ∷
    (result_words + n.domain_merging, "domain-merging") ∷
    (result_words + n.domain_not_hierarchical, "domain-not-hierarchical") ∷
    (result_words + n.no_such_channel, "no-such-channel") ∷
    (result_words + n.no_such_domain, "no-such-domain") ∷
    (result_words + n.no_such_user, "no-such-user") ∷
    (result_words + n.not_admitted, "not-admitted") ∷
    (result_words + n.other_user_id, "other-user-id") ∷
    (result_words + n.parameters_unacceptable, "parameters-unacceptable") ∷
    (result_words + n.token_not_available, "token-not-available") ∷
    (result_words + n.token_not_possessed, "token-not-possessed") ∷
    (result_words + n.too_many_channels, "too-many-channels") ∷
    (result_words + n.too_many_tokens, "too-many-tokens") ∷
    (result_words + n.too_many_users, "too-many-users") ∷
    (result_words + n.unspecified_failure, "unspecified-failure") ∷
    (result_words + n.user_rejected, "user-rejected") ∷
    (diagnostic_words + n.inconsistent_merge, "inconsistent-merge") ∷
    (diagnostic_words + n.forbidden_PDU_downward, "forbidden-PDU-downward") ∷
    (diagnostic_words + n.forbidden_PDU_upward, "forbidden-PDU-upward") ∷
    (diagnostic_words + n.invalid_BER_encoding, "invalid-BER-encoding") ∷
    (diagnostic_words + n.invalid_PER_encoding, "invalid-PER-encoding") ∷
    (diagnostic_words + n.misrouted_user, "misrouted-user") ∷
    (diagnostic_words + n.unrequested_confirm, "unrequested-confirm") ∷
    (diagnostic_words + n.wrong_transport_priority, "wrong-transport-priority") ∷
    (diagnostic_words + n.channel_id_conflict, "channel-id-conflict") ∷
    (diagnostic_words + n.token_id_conflict, "token-id-conflict") ∷
    (diagnostic_words + n.not_user_id_channel, "not-user-id-channel") ∷
    (diagnostic_words + n.too_many_channels, "too-many-channels") ∷
    (diagnostic_words + n.too_many_tokens, "too-many-tokens") ∷
    (diagnostic_words + n.too_many_users, "too-many-users") ∷
    (reason_words + n.domain_disconnected, "domain-disconnected") ∷
    (reason_words + n.provider_initiated, "provider-initiated") ∷
    (reason_words + n.token_purged, "token-purged") ∷
    (reason_words + n.user_requested, "user-requested") ∷
    (reason_words + n.channel_purged, "channel-purged") ∷
    (status_words + n.not_in_use, "notInUse") ∷
    (status_words + n.self_grabbed, "selfGrabbed") ∷
    (status_words + n.other_grabbed, "otherGrabbed") ∷
    (status_words + n.self_inhibited, "selfInhibited") ∷
    (status_words + n.other_inhibited, "otherInhibited") ∷
    (status_words + n.self_recipient, "selfRecipient") ∷
    (status_words + n.self_giving, "selfGiving") ∷
    (status_words + n.other_giving, "otherGiving") ∷
    (message_words + (fields (n.EDrq 0 0)).number, "EDrq") ∷
    (message_words + (fields (n.DPum 0)).number, "DPum") ∷
    (message_words + (fields (n.RJum 0 [])).number, "RJum") ∷
    (message_words + (fields n.AUrq).number, "AUrq") ∷
    (message_words + (fields (n.AUcf 0 none)).number, "AUcf") ∷
    (message_words + (fields (n.DUrq 0 [])).number, "DUrq") ∷
    (message_words + (fields (n.DUin 0 [])).number, "DUin") ∷
    (message_words + (fields (n.CJrq 0 0)).number, "CJrq") ∷
    (message_words + (fields (n.CJcf 0 0 0 none)).number, "CJcf") ∷
    (message_words + (fields (n.CLrq [])).number, "CLrq") ∷
    (message_words + (fields (n.CCrq 0)).number, "CCrq") ∷
    (message_words + (fields (n.CCcf 0 0 none)).number, "CCcf") ∷
    (message_words + (fields (n.CDrq 0 0)).number, "CDrq") ∷
    (message_words + (fields (n.CDin 0)).number, "CDin") ∷
    (message_words + (fields (n.CArq 0 0 [])).number, "CArq") ∷
    (message_words + (fields (n.CAin 0 0 [])).number, "CAin") ∷
    (message_words + (fields (n.CErq 0 0 [])).number, "CErq") ∷
    (message_words + (fields (n.CEin 0 [])).number, "CEin") ∷
    (message_words + (fields (n.TGrq 0 0)).number, "TGrq") ∷
    (message_words + (fields (n.TGcf 0 0 0 0)).number, "TGcf") ∷
    (message_words + (fields (n.TIrq 0 0)).number, "TIrq") ∷
    (message_words + (fields (n.TIcf 0 0 0 0)).number, "TIcf") ∷
    (message_words + (fields (n.TVrq 0 0 0)).number, "TVrq") ∷
    (message_words + (fields (n.TVin 0 0 0)).number, "TVin") ∷
    (message_words + (fields (n.TVrs 0 0 0)).number, "TVrs") ∷
    (message_words + (fields (n.TVcf 0 0 0 0)).number, "TVcf") ∷
    (message_words + (fields (n.TPrq 0 0)).number, "TPrq") ∷
    (message_words + (fields (n.TPin 0 0)).number, "TPin") ∷
    (message_words + (fields (n.TRrq 0 0)).number, "TRrq") ∷
    (message_words + (fields (n.TRcf 0 0 0 0)).number, "TRcf") ∷
    (message_words + (fields (n.TTrq 0 0)).number, "TTrq") ∷
    (message_words + (fields (n.TTcf 0 0 0)).number, "TTcf") ∷
    []

-- each claim is what the table of words has there
abbrev holds : List (ℕ × String) → Bool
holds [] = true
holds (c ∷ cs) = eqt (get_or words c.0 "?") c.1 && holds cs

pub names_hold : holds claims ≡ true
unfolding words fields
names_hold = refl
