-- What the structs hold that the code keeps: the users, the channels, the tokens, and the domain of them all. A column that is added to the domain is added
-- here.
use Rattle.std.specs.Prelude.{List}
use Rattle.domain.specs.declared.channel.Channel.{Channel}
use Rattle.domain.specs.declared.token.Token.{Token}
use Rattle.domain.specs.Tables.{Domain, Users, Channels, Tokens, domain_of, users_of, channel_cells, channels_of, token_cells, tokens_of}
use Rattle.domain_tables.specs.declared.Domain.{Domain as DomainStruct}
use Rattle.domain_tables.specs.declared.users.Users.{Users as UsersStruct}
use Rattle.domain_tables.specs.declared.channels.Channels.{Channels as ChannelsStruct}
use Rattle.domain_tables.specs.declared.channels.Members.{Members as MembersStruct}
use Rattle.domain_tables.specs.declared.tokens.Tokens.{Tokens as TokensStruct}

abbrev pub users_in : UsersStruct → Users
users_in us = users_of us.ids us.links

-- what stands at each place of the channels
abbrev pub cells_in : ChannelsStruct → MembersStruct → List Channel
cells_in cs ms = channel_cells cs.kinds cs.managers ms.admitted ms.joined

abbrev pub channels_in : ChannelsStruct → MembersStruct → Channels
channels_in cs ms = channels_of cs.ids cs.kinds cs.managers ms.admitted ms.joined

-- what stands at each place of the tokens
abbrev pub token_cells_in : TokensStruct → List Token
token_cells_in ts = token_cells ts.states ts.values

abbrev pub tokens_in : TokensStruct → Tokens
tokens_in ts = tokens_of ts.ids ts.states ts.values

abbrev pub domain_in : DomainStruct → Domain
domain_in d = domain_of d.limits d.links d.users.ids d.users.links d.channels.ids d.channels.kinds d.channels.managers d.members.admitted d.members.joined d.tokens.ids d.tokens.states d.tokens.values
