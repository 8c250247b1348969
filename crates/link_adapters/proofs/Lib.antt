mod SocketLemmas
