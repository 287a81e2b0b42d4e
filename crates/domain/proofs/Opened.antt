-- One name that opens every definition of the codec, the machine and what is said of it, but `busy` and `count`, which range over all ids: for what is proved by computing. Assumes nothing.
use Rattle.codec_octets.specs.Octets.{read_length, size, fewest, counted, read_item}
use Rattle.codec_octets.specs.Bits.{take_bits}
use Rattle.codec_table.specs.Messages.{entry, row, may_go_up, is_served, is_covered}
use Rattle.codec_table.specs.Codec.{take_field, octets_of_msg, decode, encode}
use Rattle.codec_table.specs.Named.{fields, named, formed, octets, heard}
use Rattle.cols_spec.specs.Sets.{keep, any, all, null, each, upto, member, firsts, once, has, those_from, those, with, without, minus, meet, union, only, listed}
use Rattle.cols_spec.specs.Places.{first, number, find, spare, found, seat, used, lesser, next, rising, in_order, distinct, store, load, turns_to, becomes, sweep, every, unused}
use Rattle.out_records.specs.Records.{tell, wire, record_of, octets as octets_records, records}
use Rattle.domain.specs.Cells.{kind, channel_of, with_marks, with_guests, hold, token_of}
use Rattle.domain.specs.Tables.{channel_cells, token_cells, name, link, attached, add_user, stays_on, remove_users, hosts, channel, add_channel, set_channel, end_channel, sweep_channels, members, lapses, narrowed, state, is_free, set_token, sweep_tokens, fresh, between, in_range, at_limit, grant}
use Rattle.domain.specs.Tokens.{status, inhibited, grab, inhibit, release, grabbed_by, offered_to, responded, party, lose_offer, lose}
use Rattle.domain.specs.Effects.{from, within, delivers, settle}
use Rattle.domain.specs.Channels.{attach, may, join_at, join_new, join, joined, left, leave_channels, convene, owned, manages, disband, places, own, attached_of, admitted_of, admit, private_marks, expel}
use Rattle.domain.specs.Leaving.{fate_of, fate, ended, returned, farewell, leave, those_on, detach, close}
use Rattle.domain.specs.Passing.{turn, take_token, share_token, drop_token, offer, informed, answer, please, test}
use Rattle.domain.specs.Events.{users_full, channels_full, tokens_full, act, sends as sends_events, ends, complaint, answers, step_with, step}
use Rattle.domain.specs.Good.{inside, seated, all_seated, channel_sound, token_sound, is_user, same_channel, same_token, users_sound, channels_sound, tokens_sound, counts_sound, free_blank, shaped, good}
use Rattle.domain.specs.History.{nothing_yet, code, reading, link_of, asks, same, is, told, said, closed, leaves, arrives, home, open_offer, gain, held, alone}
use Rattle.domain.specs.Claims.{formed as formed_event, now, past, next_run, goes, from_fresh, holds, holder}
use Rattle.domain.specs.Hearers.{notice, through, known_as, convening, convened, event_opens, link_opened, joining, told_joined, admitting, admitted, entitled, kind_of, is_private, manager, admits_place}

unfoldable pub opened : Unit {0}
unfolding read_length size fewest counted read_item take_bits entry row may_go_up is_served is_covered take_field octets_of_msg decode encode fields named formed octets heard keep any all null each upto member firsts once has those_from those with without minus meet union only listed first number find spare found seat used lesser next rising in_order distinct store load turns_to becomes sweep every unused tell wire record_of octets_records records kind channel_of with_marks with_guests hold token_of channel_cells token_cells name link attached add_user stays_on remove_users hosts channel add_channel set_channel end_channel sweep_channels members lapses narrowed state is_free set_token sweep_tokens fresh between in_range at_limit grant status inhibited grab inhibit release grabbed_by offered_to responded party lose_offer lose from within delivers settle attach may join_at join_new join joined left leave_channels convene owned manages disband places own attached_of admitted_of admit private_marks expel fate_of fate ended returned farewell leave those_on detach close turn take_token share_token drop_token offer informed answer please test users_full channels_full tokens_full act sends_events ends complaint answers step_with step inside seated all_seated channel_sound token_sound is_user same_channel same_token users_sound channels_sound tokens_sound counts_sound free_blank shaped good nothing_yet code reading link_of asks same is told said closed leaves arrives home open_offer gain held alone formed_event now past next_run goes from_fresh holds holder notice through known_as convening convened event_opens link_opened joining told_joined admitting admitted entitled kind_of is_private manager admits_place
opened = tt
