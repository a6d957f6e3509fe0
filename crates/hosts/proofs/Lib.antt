mod HostCalls
