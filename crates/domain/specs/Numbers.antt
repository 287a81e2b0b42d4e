-- The number that document 01 or T.125 gives each name.
use Rattle.std.specs.Prelude.{ℕ}
use Rattle.codec_table.specs.Named.{successful, no_such_channel, no_such_user, not_admitted, other_user_id, token_not_available, token_not_possessed, too_many_channels, too_many_tokens, too_many_users}
use Rattle.codec_table.specs.Named.{not_in_use, self_grabbed, other_grabbed, self_inhibited, other_inhibited, self_recipient, self_giving, other_giving}
use Rattle.codec_table.specs.Named.{domain_disconnected, provider_initiated, token_purged, user_requested, channel_purged, forbidden_PDU_upward, invalid_PER_encoding}
use Rattle.domain.specs.declared.numbers.Reply.{Reply}
use Rattle.domain.specs.declared.numbers.Reply.TheVariants.{Done, Ignored, NotOpen, OpenAlready, WrongLength, BadEncoding, MayNotGoUp, NotServed, TooLong, NoRoom, BadLimit, BadFrame}
use Rattle.domain.specs.declared.numbers.Result.{Result}
use Rattle.domain.specs.declared.numbers.Result.TheVariants.{Successful, NoSuchChannel, NoSuchUser, NotAdmitted, OtherUserId, TokenNotAvailable, TokenNotPossessed, TooManyChannels, TooManyTokens, TooManyUsers}
use Rattle.domain.specs.declared.numbers.Status.{Status}
use Rattle.domain.specs.declared.numbers.Status.TheVariants.{NotInUse, SelfGrabbed, OtherGrabbed, SelfInhibited, OtherInhibited, SelfRecipient, SelfGiving, OtherGiving}
use Rattle.domain.specs.declared.numbers.Reason.{Reason}
use Rattle.domain.specs.declared.numbers.Reason.TheVariants.{DomainDisconnected, ProviderInitiated, TokenPurged, UserRequested, ChannelPurged}
use Rattle.domain.specs.declared.numbers.Diagnostic.{Diagnostic}
use Rattle.domain.specs.declared.numbers.Diagnostic.TheVariants.{ForbiddenUpward, InvalidPer}

abbrev pub reply_number : Reply → ℕ
reply_number Done = 0
reply_number Ignored = 1
reply_number NotOpen = 2
reply_number OpenAlready = 3
reply_number WrongLength = 4
reply_number BadEncoding = 5
reply_number MayNotGoUp = 6
reply_number NotServed = 7
reply_number TooLong = 8
reply_number NoRoom = 9
reply_number BadLimit = 10
reply_number BadFrame = 11

abbrev pub result_number : Result → ℕ
result_number Successful = successful
result_number NoSuchChannel = no_such_channel
result_number NoSuchUser = no_such_user
result_number NotAdmitted = not_admitted
result_number OtherUserId = other_user_id
result_number TokenNotAvailable = token_not_available
result_number TokenNotPossessed = token_not_possessed
result_number TooManyChannels = too_many_channels
result_number TooManyTokens = too_many_tokens
result_number TooManyUsers = too_many_users

abbrev pub status_number : Status → ℕ
status_number NotInUse = not_in_use
status_number SelfGrabbed = self_grabbed
status_number OtherGrabbed = other_grabbed
status_number SelfInhibited = self_inhibited
status_number OtherInhibited = other_inhibited
status_number SelfRecipient = self_recipient
status_number SelfGiving = self_giving
status_number OtherGiving = other_giving

abbrev pub reason_number : Reason → ℕ
reason_number DomainDisconnected = domain_disconnected
reason_number ProviderInitiated = provider_initiated
reason_number TokenPurged = token_purged
reason_number UserRequested = user_requested
reason_number ChannelPurged = channel_purged

abbrev pub diagnostic_number : Diagnostic → ℕ
diagnostic_number ForbiddenUpward = forbidden_PDU_upward
diagnostic_number InvalidPer = invalid_PER_encoding
